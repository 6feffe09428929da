use Rattle.qasm_parser.proofs.TreeLaws.{statement-Gate}
use Rattle.qasm_parser.proofs.statement.declared.Goals as goal

pub returns : goal.returns
returns c = statement-Gate (record { name = c.args.heading.name; params = c.args.heading.params; qubits = c.args.heading.qubits; body = c.args.body })
