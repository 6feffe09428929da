use Rattle.std.proofs.Common.{arith, inl, inr, refl}
use Rattle.circuit_target.proofs.tries.centres_of.Goals as goal

pub returns-then-size-eq0 : goal.returns-then-size-eq0
returns-then-size-eq0 c = let whole = c.if-size-eq0.true in inl (omega (arith, whole))

pub returns-else-size-eq0 : goal.returns-else-size-eq0
returns-else-size-eq0 c = inr refl
