-- The parts and what is asked of them.
use Rattle.program_reader.proofs.HeldLaws.{IsHeld-split}
use Rattle.program_reader.proofs.source.SourceProgram.in_parts.Goals as goal

pub invariant_of-result : goal.invariant_of-result
invariant_of-result c =
    IsHeld-split c.args.split c.in_ok-parts.parts.items c.new.result c.args.registers.items c.args.barriers c.in_ok-parts.ensures.lists
    c.in_ok-parts.ensures.wires c.new.ensures.value c.requires.wires_limit c.requires.operations_limit c.requires.cut c.requires.fine c.requires.bars
    c.requires.registers c.requires.reads
