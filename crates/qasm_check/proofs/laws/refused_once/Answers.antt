use Rattle.qasm_check.proofs.OnceLaws.{refused_once}
use Rattle.qasm_check.proofs.laws.refused_once.Goals as goal

pub returns : goal.returns
returns c = record { once = refused_once }
