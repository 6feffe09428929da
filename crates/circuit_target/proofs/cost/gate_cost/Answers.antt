use Rattle.circuit_target.proofs.CostLaws.{one-limited}
use Rattle.circuit_target.proofs.cost.gate_cost.Goals as goal

pub returns-in-Cx-clause-limited : goal.returns-in-Cx-clause-limited
returns-in-Cx-clause-limited c = one-limited c.args.gate c.in-Cx.c c.in-Cx.t c.cost.result c.in-Cx.is c.cost.ensures.limited
