-- The writing begins, goes on, and ends.
use Rattle.std.proofs.Common.{◌-◌, ◌%◌, ◌∙◌, refl, arith}
use Rattle.rotation_merge.proofs.RunLaws.{writing-start, writing-within, writing-more, writing-end}
use Rattle.rotation_merge.proofs.rewritten.Goals as goal

pub gates-init : goal.gates-init
gates-init c = writing-start c.args.body.now.wires c.args.body.now.gates c.args.totals c.in_ok-written.written
    (c.in_ok-written.ensures.wires ∙ c.wires.ensures.wires) c.in_ok-written.ensures.gates c.requires.totals c.requires.noted c.requires.constant

pub write-requires-clause-noted : goal.write-requires-clause-noted
write-requires-clause-noted c = λ k q e. writing-within c.args.body.now.wires c.args.body.now.gates c.gates.i c.gate.result c.gates.totals c.gates.read c.gates.written k q c.gate.ensures.there e c.gates.invariant

pub gates-preserved : goal.gates-preserved
gates-preserved c = writing-more c.args.body.now.wires c.args.body.now.gates c.gates.i c.gate.result c.gates.totals c.write.new.self c.gates.read c.in_ok-read.read c.gates.written c.write.new.written c.gate.ensures.there
    c.in_ok-read.ensures.wires c.in_ok-read.ensures.writes c.in_ok-read.ensures.noted c.gates.invariant

pub returns-clause-merged : goal.returns-clause-merged
returns-clause-merged c = writing-end c.args.body.now.wires c.args.body.now.gates c.gates.i c.gates.totals c.gates.read
    (record { body = c.gates.written; turn = (8 - c.gates.totals.constant % 8) % 8 }) (omega arith) refl c.gates.invariant
