use Rattle.std.proofs.Common.{◌<◌, ◌^◌, subst, sym, ◌∙◌}
use Rattle.std.proofs.lemmas.Nat.{xor_lt, pow_below}
use Rattle.linear_tests.proofs.rows.row_of.Goals.{then-mask-wire-eq1, else-mask-wire-eq1}
use Rattle.linear_tests.proofs.rows.row_of.Goals as goal

pub wires-preserved : goal.wires-preserved
wires-preserved c = elim c.if-mask-wire-eq1.branch [
  | then-mask-wire-eq1 w ↦
      subst (λ r. r < 2 ^ 3) (sym (w.row-is ∙ w.flip.ensures.new)) (xor_lt 3 c.wires.row (2 ^ c.wires.wire) c.wires.invariant (pow_below c.wires.wire 3 c.wires-test.true))
  | else-mask-wire-eq1 w ↦ subst (λ r. r < 2 ^ 3) (sym w.row-is) c.wires.invariant
]
