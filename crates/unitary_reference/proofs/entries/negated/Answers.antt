use Rattle.std.proofs.Common.{arith}
use Rattle.std.proofs.lemmas.Int.{ints}
use Rattle.unitary_model.specs.Ring.{minus}
use Rattle.unitary_model.proofs.RingLaws.{ring_path}
use Rattle.unitary_reference.proofs.entries.negated.Goals as goal

pub returns : goal.returns
unfolding minus
returns c =
    let h = c.requires.small in
    record { negated = ring_path (omega (arith, ints, h.a_low, h.a_high)) (omega (arith, ints, h.b_low, h.b_high)) (omega (arith, ints, h.c_low, h.c_high)) (omega (arith, ints, h.d_low, h.d_high)) }
