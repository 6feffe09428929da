-- What it gives is what the merging promises.
use Rattle.rotation_merge.proofs.MergePassPass.run.Goals as goal

pub returns-clause-wires : goal.returns-clause-wires
returns-clause-wires c = c.in_ok-passed.ensures.wires

pub returns-clause-law : goal.returns-clause-law
returns-clause-law c = c.in_ok-passed.ensures.law

pub returns-clause-shape : goal.returns-clause-shape
returns-clause-shape c = c.in_ok-passed.ensures.shape

pub returns-clause-kept : goal.returns-clause-kept
returns-clause-kept c = c.in_ok-passed.ensures.kept
