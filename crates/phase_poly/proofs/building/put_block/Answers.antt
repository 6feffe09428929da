use Rattle.std.proofs.Common.{◌≡◌, List, ℕ, Contains, length, subst, sym, ◌^◌, ◌<◌, slice_index_or, All, arith}
use Rattle.std.proofs.lemmas.Grind.{common_steps}
use Rattle.phase_poly.specs.Resynthesis.{term_rows}
use Rattle.phase_poly.proofs.BuildingLaws.{rows-below}
use Rattle.phase_poly.proofs.building.put_block.Goals as goal

pub complete-requires-clause-below : goal.complete-requires-clause-below
complete-requires-clause-below c = λ k d l.
    let rows : c.deref.result.now ≡ term_rows c.args.terms.now c.args.block.now = grind (arith, common_steps) in
    let wires : c.wires.result ≡ length c.args.held.now = grind (arith, common_steps) in
    subst (λ n. slice_index_or c.deref.result.now k d < 2 ^ n) (sym wires)
    (rows-below (length c.args.held.now) c.args.terms.now c.args.block.now c.deref.result.now c.requires.terms c.requires.within rows k d l)

pub put_terms-requires-clause-rows : goal.put_terms-requires-clause-rows
put_terms-requires-clause-rows c =
    let rows : c.deref.result.now ≡ term_rows c.args.terms.now c.args.block.now = grind (arith, common_steps) in
    subst (λ (m : List ℕ). All (Contains m) (term_rows c.args.terms.now c.args.block.now)) (sym c.in_ok-bring.ensures.held)
    (subst (λ (rs : List ℕ). All (Contains c.in_ok-target.target) rs) rows c.in_ok-target.ensures.each)
