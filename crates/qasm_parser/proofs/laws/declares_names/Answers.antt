use Rattle.qasm_parser.proofs.NameLaws.{tree-names}
use Rattle.qasm_parser.proofs.laws.declares_names.Goals as goal

pub returns : goal.returns
returns c = record { names = tree-names }
