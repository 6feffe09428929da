use Rattle.std.proofs.Common.{arith}
use Rattle.amplitude_exact.proofs.BitLaws.{number_step}
use Rattle.amplitude_exact.proofs.bits.number_of.Goals as goal
use Rattle.std.proofs.Common.{refl}

pub bits-preserved : goal.bits-preserved
bits-preserved c =
    let h = c.bits.invariant in
    let s = number_step c.args.list.now c.bits.left c.bits.number _ c.bits-test.true h.in_range h.below h.same refl in
    record { in_range = omega (arith, h.in_range); below = s.0; same = s.1 }
