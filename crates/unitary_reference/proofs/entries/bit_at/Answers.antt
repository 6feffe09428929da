use Rattle.std.proofs.Common.{sym}
use Rattle.unitary_reference.proofs.ValueLaws.{bit_of-get_or}
use Rattle.unitary_model.proofs.PlacementLaws.{past_end}
use Rattle.unitary_reference.proofs.entries.bit_at.Goals as goal

pub returns-then-place-x : goal.returns-then-place-x
returns-then-place-x c = record { bit = sym (bit_of-get_or c.args.x.now c.args.q) }

pub returns-else-place-x : goal.returns-else-place-x
returns-else-place-x c = record { bit = sym (past_end c.args.x.now c.args.q c.if-place-x.false) }
