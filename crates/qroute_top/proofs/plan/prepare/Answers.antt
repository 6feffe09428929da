-- Each read is told of the qubit on which its wire ends.
use Rattle.std.proofs.Common.{◌∙◌, All, ap, map, subst}
use Rattle.circuit_target.specs.Standing.{placed_read}
use Rattle.gate_inline.specs.Registers.{IsRead}
use Rattle.qroute_top.proofs.plan.prepare.Goals as goal

pub returns-clause-reads : goal.returns-clause-reads
returns-clause-reads c = c.in_ok-reads.ensures.same ∙ ap (map (placed_read c.args.target.now.last)) c.reads.ensures.value

pub returns-clause-there : goal.returns-clause-there
returns-clause-there c = subst (λ n. All (IsRead n) c.in_ok-reads.reads.items) c.requires.fit.placed c.in_ok-reads.ensures.there
