use Rattle.qasm_parser.proofs.OnceLaws.{spelt_once}
use Rattle.qasm_parser.proofs.laws.spelt_once.Goals as goal

pub returns : goal.returns
returns c = record { once = spelt_once }
