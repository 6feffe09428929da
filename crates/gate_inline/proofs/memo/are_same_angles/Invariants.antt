-- The first angles are the same, and there are as many.
use Rattle.std.proofs.Common.{◌≡◌, take}
use Rattle.gate_inline.proofs.memo.are_same_angles.Given as goal

abbrev pub invariant-angles : goal.invariant-angles
invariant-angles l = take l.i l.a ≡ take l.i l.b
