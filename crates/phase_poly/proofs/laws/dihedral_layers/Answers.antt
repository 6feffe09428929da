use Rattle.std.proofs.Common.{refl}
use Rattle.circuit_layers.specs.Layers.{layers_of}
use Rattle.phase_poly.proofs.FineLaws.{dihedral_told}
use Rattle.phase_poly.proofs.RelinkedLaws.{dihedral_layer}
use Rattle.phase_poly.proofs.laws.dihedral_layers.Goals as goal

pub returns : goal.returns
returns c = record { dihedral = λ n gs f i d l. dihedral_layer n (layers_of gs) i d l (dihedral_told n n gs (layers_of gs) refl refl f) }
