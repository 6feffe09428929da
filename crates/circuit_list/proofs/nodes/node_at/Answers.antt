use Rattle.std.proofs.Common.{◌∙◌, sym, ap, arith}
use Rattle.circuit_list.specs.Tree.{leaf}
use Rattle.circuit_list.proofs.TreeLaws.{node_at-inner, node_at-slot}
use Rattle.circuit_list.proofs.nodes.node_at.Goals as goal

pub returns-then-node-nodes : goal.returns-then-node-nodes
returns-then-node-nodes c = record { value = sym (node_at-inner c.args.gates.now c.args.nodes.now c.args.node (record { count = 0; wires = 0 }) c.if-node-nodes.true) }

pub returns-else-node-nodes : goal.returns-else-node-nodes
returns-else-node-nodes c = record { value = c.leaf.ensures.value ∙ ap leaf c.entry.ensures.value ∙ sym (node_at-slot c.args.gates.now c.args.nodes.now c.args.node _ (omega arith)) }
