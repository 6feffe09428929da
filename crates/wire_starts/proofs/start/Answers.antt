use Rattle.std.proofs.Common.{◌-◌, ◌*◌, ◌%◌, ◌∙◌, ap, subst}
use Rattle.std.proofs.lemmas.Result.{IfOk-weaker}
use Rattle.wire_starts.specs.Starts.{IsNearestFirst, IsTryStart}
use Rattle.wire_starts.proofs.FirstLaws.{IsStart-later}
use Rattle.wire_starts.proofs.start.Goals as goal

pub returns-clause-start : goal.returns-clause-start
returns-clause-start c =
    let d = c.args.device.now in
    let k = c.args.number in
    let centre = ap (λ m. (7 * m) % c.from-2.result) c.from.ensures ∙ ap (λ n. (7 * (k - 1)) % n) (c.from-2.ensures ∙ c.size-2.ensures.size) in
    IfOk-weaker c.around.result _ (λ p. IsTryStart d k p)
    (λ p h. IsStart-later d k p c.if-number-eq0.false (subst (λ m. IsNearestFirst d.edges d.size m p) centre h)) c.around.ensures.around
