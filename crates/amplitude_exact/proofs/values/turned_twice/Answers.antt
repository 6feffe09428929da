use Rattle.std.proofs.Common.{arith}
use Rattle.std.proofs.lemmas.Int.{ints}
use Rattle.unitary_model.specs.Ring.{turn1}
use Rattle.unitary_model.proofs.RingLaws.{ring_path}
use Rattle.amplitude_exact.proofs.values.turned_twice.Goals as goal

pub returns : goal.returns
unfolding turn1
returns c =
    let h = c.requires.small in
    record { turned = ring_path (omega (arith, ints, h.c_low, h.c_high)) (omega (arith, ints, h.d_low, h.d_high)) (omega (arith, ints, h.a_low, h.a_high)) (omega (arith, ints, h.b_low, h.b_high)) }
