use Rattle.qasm_check.proofs.EitherLaws.{checked_or_refused}
use Rattle.qasm_check.proofs.laws.checked_or_refused.Goals as goal

pub returns : goal.returns
returns c = record { either = checked_or_refused }
