use Rattle.qasm_parser.proofs.NameLaws.{few_statements}
use Rattle.qasm_parser.proofs.laws.few_statements.Goals as goal

pub returns : goal.returns
returns c = record { count = few_statements }
