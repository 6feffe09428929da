use Rattle.std.proofs.Common.{◌≡◌, ℕ, false, ◌∷◌, sym, subst, arith}
use Rattle.std.specs.Prelude.{◌==◌, ◌||◌}
use Rattle.std.proofs.lemmas.Bool.Decides.{nat_tests}
use Rattle.unitary_model.specs.declared.Op.{Op}
use Rattle.amplitude_exact.specs.Columns.{IsValue}
use Rattle.amplitude_exact.specs.Values.{ring_of}
use Rattle.amplitude_exact.proofs.RowLaws.{value-branch, value-turned, value-exchanged}
use Rattle.amplitude_exact.proofs.columns.value_at.Goals as goal

pub returns-then-a-eq0 : goal.returns-then-a-eq0
returns-then-a-eq0 c = λ us to h. subst (λ (o : Op). IsValue c.args.wires (o ∷ us) to c.args.number (ring_of c.turned_on.result)) (sym c.in-U.is)
    (value-turned c.args.wires us to c.args.number c.with_bit.result c.with_bit-in-U.result c.in-U.a c.in-U.b c.in-U.c c.in-U.q c.bit_at-bit.result _ _ (ring_of c.turned_on.result)
    c.bit_at-bit.ensures.bit c.with_bit.ensures.bits c.with_bit-in-U.ensures.bits (h.each c.with_bit.result _ c.with_bit.ensures.below) (h.each c.with_bit-in-U.result _ c.with_bit-in-U.ensures.below)
    c.if-a-eq0.true c.turned_on.ensures.value)

pub returns-then-a-eq4 : goal.returns-then-a-eq4
returns-then-a-eq4 c = λ us to h. subst (λ (o : Op). IsValue c.args.wires (o ∷ us) to c.args.number (ring_of c.exchanged.result)) (sym c.in-U.is)
    (value-exchanged c.args.wires us to c.args.number c.with_bit.result c.with_bit-in-U.result c.in-U.a c.in-U.b c.in-U.c c.in-U.q c.bit_at-bit.result _ _ (ring_of c.exchanged.result)
    c.bit_at-bit.ensures.bit c.with_bit.ensures.bits c.with_bit-in-U.ensures.bits (h.each c.with_bit.result _ c.with_bit.ensures.below) (h.each c.with_bit-in-U.result _ c.with_bit-in-U.ensures.below)
    c.if-a-eq4.true c.exchanged.ensures.value)

no_exchange : (a : ℕ) → (a ≡ 0 → ⊥) → (a ≡ 4 → ⊥) → (a == 0 || a == 4) ≡ false
no_exchange a h g = grind (arith, nat_tests)

pub returns-else-a-eq4 : goal.returns-else-a-eq4
returns-else-a-eq4 c = λ us to h. subst (λ (o : Op). IsValue c.args.wires (o ∷ us) to c.args.number (ring_of c.branched.result)) (sym c.in-U.is)
    (value-branch c.args.wires us to c.args.number c.with_bit.result c.with_bit-in-U.result c.in-U.a c.in-U.b c.in-U.c c.in-U.q c.bit_at-bit.result _ _ (ring_of c.branched.result)
    c.bit_at-bit.ensures.bit c.with_bit.ensures.bits c.with_bit-in-U.ensures.bits (h.each c.with_bit.result _ c.with_bit.ensures.below) (h.each c.with_bit-in-U.result _ c.with_bit-in-U.ensures.below)
    (no_exchange c.in-U.a c.if-a-eq0.false c.if-a-eq4.false) c.branched.ensures.value)
