-- What the last pass leaves is settled.
use Rattle.circuit_target.proofs.TargetLaws.{IsSettled-left}
use Rattle.circuit_target.proofs.passes.rewrite.Goals as goal

pub returns-clause-settled : goal.returns-clause-settled
returns-clause-settled c = IsSettled-left c.args.body.wires c.in_ok-passed-2.passed.body.gates c.in_ok-passed-2.ensures.shape
