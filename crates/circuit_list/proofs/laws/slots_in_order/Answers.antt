use Rattle.circuit_list.proofs.SlotLaws.{lower-place, place-lower}
use Rattle.circuit_list.proofs.laws.slots_in_order.Goals as goal

pub returns : goal.returns
returns c = record { places = place-lower; slots = lower-place }
