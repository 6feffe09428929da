use Rattle.phase_poly.proofs.MapLaws.{map_good, map_independent}
use Rattle.phase_poly.proofs.laws.invertible_map.Goals as goal

pub returns-clause-independent : goal.returns-clause-independent
returns-clause-independent c = map_independent

pub returns-clause-wires : goal.returns-clause-wires
returns-clause-wires c = λ n gs f. (map_good n gs f).long
