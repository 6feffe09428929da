use Rattle.std.proofs.Common.{◌∙◌}
use Rattle.unitary_reference.proofs.ValueLaws.{same_bits-pointwise}
use Rattle.unitary_reference.proofs.entries.are_same.Goals as goal

pub returns : goal.returns
returns c = record { same = c.eq.ensures ∙ same_bits-pointwise c.args.x.now c.args.y.now }
