use Rattle.qasm_check.proofs.ListingLaws.{all_spelt}
use Rattle.qasm_check.proofs.laws.listing_is_spelt.Goals as goal

pub returns : goal.returns
returns c = record { spelt = all_spelt }
