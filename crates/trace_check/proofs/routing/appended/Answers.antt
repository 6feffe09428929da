use Rattle.std.proofs.Common.{◌∷◌, [], subst}
use Rattle.trace_check.specs.Progress.{IsAppended}
use Rattle.trace_check.proofs.WrittenLaws.{grows-other, grows-past, grows-same}
use Rattle.trace_check.proofs.routing.appended.Goals as goal

pub returns-in_default : goal.returns-in_default
returns-in_default c = λ written h. grows-past c.args.goal.now.gates (c.args.gate ∷ []) written (subst (λ k. IsAppended c.args.goal.now.gates k written) c.in_default.is h)

pub returns-then-is_at : goal.returns-then-is_at
returns-then-is_at c = λ written h. grows-same c.args.goal.now.gates c.in-Some.place c.args.gate (c.is_at.ensures.yes c.if-is_at.true) written (subst (λ k. IsAppended c.args.goal.now.gates k written) c.in-Some.is h)

pub returns : goal.returns
returns c = λ written h. grows-other c.args.goal.now.gates c.in-Some.place c.args.gate (c.is_at.ensures.no c.if-is_at.false) written (subst (λ k. IsAppended c.args.goal.now.gates k written) c.in-Some.is h)
