-- What it gives is what the propagation promises.
use Rattle.not_propagate.proofs.NotPassPass.run.Goals as goal

pub returns-clause-wires : goal.returns-clause-wires
returns-clause-wires c = c.in_ok-passed.ensures.wires

pub returns-clause-law : goal.returns-clause-law
returns-clause-law c = c.in_ok-passed.ensures.law

pub returns-clause-shape : goal.returns-clause-shape
returns-clause-shape c = c.in_ok-passed.ensures.shape
