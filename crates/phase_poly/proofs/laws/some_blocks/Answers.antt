use Rattle.std.proofs.Common.{length}
use Rattle.circuit_layers.specs.Layers.{layers_of}
use Rattle.phase_poly.proofs.BlockLaws.{singles, singles-partition, some_blocks}
use Rattle.phase_poly.proofs.FineLaws.{fine_of}
use Rattle.phase_poly.proofs.PassLaws.{layers_dihedral}
use Rattle.phase_poly.proofs.laws.some_blocks.Goals as goal

pub returns-clause-rows : goal.returns-clause-rows
returns-clause-rows c = λ rows h. (singles 0 (length rows), singles-partition rows h)

pub returns-clause-layers : goal.returns-clause-layers
returns-clause-layers c = λ n gs f. some_blocks n (layers_of gs) (layers_dihedral n gs (fine_of n gs f))
