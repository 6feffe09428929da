-- The first names of the code are those of the library's listing.
use Rattle.std.proofs.Common.{refl}
use Rattle.gate_library.specs.Library.{standard_names}
use Rattle.gate_library.specs.Listing.{standard}
use Rattle.gate_library.proofs.library.standard_names.Goals as goal

pub returns : goal.returns
unfolding standard_names standard
returns c = record { value = refl }
