use Rattle.std.proofs.Common.{sym}
use Rattle.unitary_reference.proofs.ValueLaws.{with_bit-past}
use Rattle.unitary_reference.proofs.entries.put_bit.Goals as goal

pub returns-else-place-x : goal.returns-else-place-x
returns-else-place-x c = record { put = sym (with_bit-past c.args.x.now c.args.q c.args.bit c.if-place-x.false) }
