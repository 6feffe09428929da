use Rattle.rewrite_steps.proofs.PairLaws.{bound, reduces}
use Rattle.rewrite_steps.proofs.pairs.together.Goals as goal

pub returns-then-is_free-clause-pair : goal.returns-then-is_free-clause-pair
returns-then-is_free-clause-pair c =
    reduces c.args.body.now.gates c.args.first c.args.second c.gate-gate.result c.gate-other.result c.cancels.result
    c.gate-gate.ensures.there c.gate-other.ensures.there c.if-first-second.false (c.is_free.ensures.free c.if-is_free.true) c.cancels.ensures.value

pub returns-else-is_free-clause-pair : goal.returns-else-is_free-clause-pair
returns-else-is_free-clause-pair c = bound c.args.body.now.gates c.args.first c.args.second c.gate-gate.result c.gate-gate.ensures.there (c.is_free.ensures.not c.if-is_free.false)
