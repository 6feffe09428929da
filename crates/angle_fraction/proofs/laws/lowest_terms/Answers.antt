use Rattle.angle_fraction.proofs.LowestLaws.{lowest_lowest, lowest_reduced, lowest_same}
use Rattle.angle_fraction.proofs.laws.lowest_terms.Goals as goal

pub returns-clause-reduced : goal.returns-clause-reduced
returns-clause-reduced c = lowest_reduced

pub returns-clause-lowest : goal.returns-clause-lowest
returns-clause-lowest c = lowest_lowest

pub returns-clause-same : goal.returns-clause-same
returns-clause-same c = lowest_same
