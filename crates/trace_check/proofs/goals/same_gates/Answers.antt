use Rattle.std.proofs.Common.{arith}
use Rattle.trace_check.proofs.GoalLaws.{same-all}
use Rattle.trace_check.proofs.goals.same_gates.Goals as goal

pub returns-clause-yes : goal.returns-clause-yes
returns-clause-yes c = λ y.
    same-all c.args.left.now.gates c.args.right.now.gates (omega (arith, c.if-len.false, c.len.ensures.value, c.len-2.ensures.value))
    (λ k lt. c.gates.invariant k (omega (arith, lt, c.gates-test.false, c.len-place-end.ensures.value)))
