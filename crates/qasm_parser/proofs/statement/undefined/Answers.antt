use Rattle.qasm_parser.proofs.TreeLaws.{statement-Opaque}
use Rattle.qasm_parser.proofs.statement.undefined.Goals as goal

pub returns : goal.returns
returns c = statement-Opaque (record { name = c.args.heading.name; params = c.args.heading.params; qubits = c.args.heading.qubits; body = c.args.body })
