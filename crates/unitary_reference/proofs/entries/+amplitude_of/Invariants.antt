use Rattle.std.proofs.Common.{length}
use Rattle.unitary_reference.proofs.entries.+amplitude_of.Given as goal

abbrev pub decreases-amplitude_of : goal.decreases-amplitude_of
decreases-amplitude_of l = length l.ops.now
