use Rattle.std.proofs.Common.{arith}
use Rattle.std.proofs.lemmas.Int.{ints}
use Rattle.unitary_model.specs.Ring.{plus}
use Rattle.unitary_model.proofs.RingLaws.{ring_path}
use Rattle.unitary_reference.proofs.entries.plus.Goals as goal

pub returns : goal.returns
unfolding plus
returns c =
    let h = c.requires.left in
    let g = c.requires.right in
    record { sum = ring_path (omega (arith, ints, h.a_low, h.a_high, g.a_low, g.a_high)) (omega (arith, ints, h.b_low, h.b_high, g.b_low, g.b_high)) (omega (arith, ints, h.c_low, h.c_high, g.c_low, g.c_high)) (omega (arith, ints, h.d_low, h.d_high, g.d_low, g.d_high)) }
