use Rattle.gate_inline.proofs.OnceLaws.{refused_once}
use Rattle.gate_inline.proofs.laws.refused_once.Goals as goal

pub returns : goal.returns
returns c = record { once = refused_once }
