use Rattle.std.proofs.Common.{◌≡◌, ◌-◌, ◌+◌, ◌^◌, cond, sym, ◌∙◌, ap, arith, ◌<◌}
use Rattle.unitary_model.specs.Amplitude.{with_bit}
use Rattle.amplitude_exact.specs.Columns.{bits}
use Rattle.amplitude_exact.proofs.BitLaws.{bits-past, put_made, place_le}
use Rattle.amplitude_exact.proofs.bits.with_bit.Goals as goal
use Rattle.amplitude_exact.proofs.bits.with_bit.Goals.{then-bit_at, else-bit_at}

pub returns-then-q-wires-clause-bits : goal.returns-then-q-wires-clause-bits
returns-then-q-wires-clause-bits c = bits-past c.args.wires c.args.number c.args.q c.args.bit c.if-q-wires.true

pub overflow_sub-cleared : goal.overflow_sub-cleared
overflow_sub-cleared c =
    let g = place_le c.args.wires c.args.number c.args.q c.if-q-wires.false (sym c.bit_at.ensures.bit ∙ c.if-bit_at.true) in
    omega (arith, g, c.power_of_two-place.ensures.value)

put : (c : goal.After-row_known-1) → (bits c.args.wires (c.if-bit_at.cleared + c.power_of_two-place.result) ≡ with_bit (bits c.args.wires c.args.number) c.args.q c.args.bit) × (c.if-bit_at.cleared + c.power_of_two-place.result < 2 ^ c.args.wires)
put c =
    let place = c.power_of_two-place.result in
    let e : c.if-bit_at.cleared ≡ c.args.number - cond c.bit_at.result place 0 = elim c.if-bit_at.branch [
      | then-bit_at w ↦ w.cleared-is ∙ ap (λ s. c.args.number - cond s place 0) (sym w.if-bit_at.true)
      | else-bit_at w ↦ (let z : c.if-bit_at.cleared ≡ c.args.number - 0 = omega (arith, w.cleared-is) in z ∙ ap (λ s. c.args.number - cond s place 0) (sym w.if-bit_at.false))
    ] in
    put_made c.args.wires c.args.number c.args.q place c.if-bit_at.cleared _ c.bit_at.result c.args.bit c.if-q-wires.false c.requires.below c.bit_at.ensures.bit c.power_of_two-place.ensures.value e
    (ap (λ s. c.if-bit_at.cleared + cond s place 0) (sym c.if-bit.true))

off : (c : goal.Else-bit) → (bits c.args.wires c.if-bit_at.cleared ≡ with_bit (bits c.args.wires c.args.number) c.args.q c.args.bit) × (c.if-bit_at.cleared < 2 ^ c.args.wires)
off c =
    let place = c.power_of_two-place.result in
    let e : c.if-bit_at.cleared ≡ c.args.number - cond c.bit_at.result place 0 = elim c.if-bit_at.branch [
      | then-bit_at w ↦ w.cleared-is ∙ ap (λ s. c.args.number - cond s place 0) (sym w.if-bit_at.true)
      | else-bit_at w ↦ (let z : c.if-bit_at.cleared ≡ c.args.number - 0 = omega (arith, w.cleared-is) in z ∙ ap (λ s. c.args.number - cond s place 0) (sym w.if-bit_at.false))
    ] in
    let z : c.if-bit_at.cleared ≡ c.if-bit_at.cleared + 0 = omega arith in
    put_made c.args.wires c.args.number c.args.q place c.if-bit_at.cleared _ c.bit_at.result c.args.bit c.if-q-wires.false c.requires.below c.bit_at.ensures.bit c.power_of_two-place.ensures.value e
    (z ∙ ap (λ s. c.if-bit_at.cleared + cond s place 0) (sym c.if-bit.false))

pub returns-then-bit-clause-below : goal.returns-then-bit-clause-below
returns-then-bit-clause-below c = (put c).1

pub returns-then-bit-clause-bits : goal.returns-then-bit-clause-bits
returns-then-bit-clause-bits c = (put c).0

pub returns-else-bit-clause-below : goal.returns-else-bit-clause-below
returns-else-bit-clause-below c = (off c).1

pub returns-else-bit-clause-bits : goal.returns-else-bit-clause-bits
returns-else-bit-clause-bits c = (off c).0
