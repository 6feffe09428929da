use Rattle.std.proofs.Common.{◌≡◌, ◌≤◌, ◌+◌, ℕ, List, All, Contains, length, subst, sym, arith}
use Rattle.std.proofs.lemmas.Grind.{common_steps}
use Rattle.gf2_linear.specs.Rows.{rank}
use Rattle.phase_poly.specs.Resynthesis.{term_rows}
use Rattle.phase_poly.proofs.BuildingLaws.{rows-below}
use Rattle.spare_layers.specs.Weaving.{IsBrought, IsWide}
use Rattle.spare_layers.proofs.AnewLaws.{term_rows-of}
use Rattle.spare_layers.proofs.PlacedLaws.{stand-among}
use Rattle.spare_layers.proofs.weaving.put_block.Goals as goal

pub complete_wide-requires-clause-below : goal.complete_wide-requires-clause-below
complete_wide-requires-clause-below c = λ k d l.
    let rows : c.deref.result.now ≡ term_rows c.args.terms.now c.args.block.now = grind (arith, common_steps) in
    rows-below c.args.wires c.args.terms.now c.args.block.now c.deref.result.now c.requires.terms c.requires.within rows k d l

pub complete_wide-requires-clause-room : goal.complete_wide-requires-clause-room
complete_wide-requires-clause-room c =
    let rows : c.deref.result.now ≡ term_rows c.args.terms.now c.args.block.now = grind (arith, common_steps) in
    subst (λ (rs : List ℕ). length rs ≤ rank rs + c.args.spares) (sym rows) c.requires.room

pub bring-requires-clause-to : goal.bring-requires-clause-to
bring-requires-clause-to c = record { long = c.in_ok-target.ensures.length; below = c.in_ok-target.ensures.below; full = c.in_ok-target.ensures.rank }

pub returns-clause-wide : goal.returns-clause-wide
returns-clause-wide c =
    subst (IsWide c.args.wires c.args.spares) (sym c.in_ok-bring.ensures.held)
    (record { long = c.in_ok-target.ensures.length; below = c.in_ok-target.ensures.below; full = c.in_ok-target.ensures.rank })

pub returns-clause-put : goal.returns-clause-put
returns-clause-put c =
    let rows : c.deref.result.now ≡ term_rows c.args.terms.now c.args.block.now = grind (arith, common_steps) in
    let there : All (Contains c.in_ok-target.target.items) (term_rows c.args.terms.now c.args.block.now) =
    subst (λ (rs : List ℕ). All (Contains c.in_ok-target.target.items) rs) rows (stand-among c.in_ok-target.target.items c.deref.result.now c.in_ok-target.ensures.each) in
    record {
      mid = c.bring.new.gates.items;
      brought = subst (λ (to : List ℕ). IsBrought (c.args.wires + c.args.spares) c.args.held.now.items to c.args.gates.now.items c.bring.new.gates.items) (sym c.in_ok-bring.ensures.held) c.in_ok-bring.ensures.brought;
      stand = subst (λ (rs : List ℕ). All (Contains c.bring.new.held.items) rs) (sym (term_rows-of c.args.terms.now c.args.block.now))
          (subst (λ (to : List ℕ). All (Contains to) (term_rows c.args.terms.now c.args.block.now)) (sym c.in_ok-bring.ensures.held) there);
      written = grind (arith, common_steps);
    }
