use Rattle.std.proofs.Common.{sym, ◌∙◌}
use Rattle.qasm_writer.proofs.NameLaws.{free_name, taken_more}
use Rattle.qasm_writer.proofs.underscores.Goals as goal

pub returns-then-not-is_taken : goal.returns-then-not-is_taken
returns-then-not-is_taken c =
    free_name c.args.registers.now c.names.count c.names.invariant (sym c.is_taken.ensures ∙ c.if-not-is_taken.true)

pub names-preserved : goal.names-preserved
names-preserved c =
    taken_more c.args.registers.now c.names.count c.names.invariant (sym c.is_taken.ensures ∙ c.if-not-is_taken.false)
