-- Tries after so many come again.
use Rattle.std.proofs.Common.{arith, refl}
use Rattle.circuit_target.proofs.tries.made_of.Goals as goal

pub returns-then-different-tries : goal.returns-then-different-tries
returns-then-different-tries c =
    let less = c.if-different-tries.true in
    record {
      some = omega arith;
      within = omega (arith, less);
      again = λ lt. (c.round_of-different.result, refl, c.round_of-different.ensures);
    }

pub returns-else-different-tries : goal.returns-else-different-tries
returns-else-different-tries c = record {
  some = c.requires.some;
  within = omega arith;
  again = λ lt. absurd (omega (arith, lt));
}
