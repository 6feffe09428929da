use Rattle.std.proofs.Common.{◌≡◌, ◌∙◌, ap, arith}
use Rattle.std.proofs.lemmas.Grind.{common_steps}
use Rattle.phase_poly.specs.Polys.{PolyBody}
use Rattle.layer_stages.specs.Stages.{odd_rows}
use Rattle.layer_stages.proofs.StageLaws.{odd_rows-nonzero}
use Rattle.layer_stages.proofs.stage.stage_of.Goals as goal

pub least_parts-requires : goal.least_parts-requires
least_parts-requires c =
    let rows : c.deref.result.now ≡ odd_rows c.in_ok-sum.sum.terms = grind (arith, common_steps) in
    record { nonzero = odd_rows-nonzero c.filled_terms.ensures.filled c.args.wires c.args.gates.now c.deref.result.now c.requires.dihedral (rows ∙ ap (λ (p : PolyBody). odd_rows p.terms) c.in_ok-sum.ensures.ok) }
