use Rattle.qasm_parser.proofs.OnceLaws.{accepted_or_refused}
use Rattle.qasm_parser.proofs.laws.parsed_or_refused.Goals as goal

pub returns : goal.returns
returns c = record { either = accepted_or_refused }
