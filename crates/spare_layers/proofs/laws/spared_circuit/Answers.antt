use Rattle.spare_layers.proofs.SparedPassLaws.{circuit_fine, spared_entries, spared_few}
use Rattle.spare_layers.proofs.laws.spared_circuit.Goals as goal

pub returns : goal.returns
returns c = record { entries = spared_entries; fine = circuit_fine; t_gates = spared_few }
