use Rattle.std.proofs.Common.{◌≡◌, slice_index, sym, arith}
use Rattle.std.proofs.lemmas.Grind.{common_steps}
use Rattle.spare_layers.proofs.PlacedLaws.{place-none, place-there}
use Rattle.spare_layers.proofs.weaving.first_place.Goals as goal

pub returns-then-equals-clause-same : goal.returns-then-equals-clause-same
returns-then-equals-clause-same c =
    let here : slice_index c.args.held.now c.wires.wire ≡ c.args.row.now = grind (arith, common_steps) in
    sym (place-there c.args.row.now c.args.held.now c.wires.wire c.wires-test.true c.wires.invariant here)

pub returns-clause-same : goal.returns-clause-same
returns-clause-same c = sym (place-none c.args.row.now c.args.held.now (λ k l. c.wires.invariant k (omega arith)))
