use Rattle.std.proofs.Common.{arith}
use Rattle.circuit_target.proofs.CostLaws.{cost-next, count-next, follows-at}
use Rattle.circuit_target.proofs.cost.sum_of_costs.Goals as goal

pub gate_cost-sum-requires : goal.gate_cost-sum-requires
gate_cost-sum-requires c = follows-at c.args.device.now.edges c.args.body.now.gates c.places.place c.gate.result c.requires.edges c.gate.ensures.there

pub places-preserved : goal.places-preserved
places-preserved c =
    let there = c.gate.ensures.there in
    let costs = cost-next c.args.device.now c.args.body.now.gates c.places.place c.gate.result there in
    let counts = count-next c.args.body.now.gates c.places.place c.gate.result there in
    record {
      whole = omega (arith, c.places.invariant.whole, c.gate_cost-sum.ensures.cost, costs);
      few = omega (arith, c.places.invariant.few, c.gate_cost-sum.ensures.limited, counts);
    }
