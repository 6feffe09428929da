-- What it gives keeps the bound of each layer.
use Rattle.phase_poly.proofs.pass.ResynthPassPass.run.Goals as goal

pub returns-in-Some-clause-kept : goal.returns-in-Some-clause-kept
returns-in-Some-clause-kept c = rw c.in-Some.is at c.in_ok-passed.ensures.kept
