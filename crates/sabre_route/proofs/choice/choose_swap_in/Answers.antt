use Rattle.std.proofs.Common.{ap, length, subst, sym, arith}
use Rattle.sabre_route.specs.Scores.{AreApart, AreFar, AreWithin}
use Rattle.sabre_route.proofs.FrontLaws.{surveyed}
use Rattle.sabre_route.proofs.SeenLaws.{ahead-best, ahead-few, ahead-within, seen-sized}
use Rattle.sabre_route.proofs.choice.choose_swap_in.Goals as goal

pub extended_in-extended_count-requires-clause-limit : goal.extended_in-extended_count-requires-clause-limit
extended_in-extended_count-requires-clause-limit c = omega (arith, c.requires.placed, c.facts.ensures.coupling.graph.limited)

pub extended_in-extended_count-requires-clause-layer_limit : goal.extended_in-extended_count-requires-clause-layer_limit
extended_in-extended_count-requires-clause-layer_limit c =
    let s = surveyed c.args.device.now c.args.state.now.placement _ c.args.state.now.rest c.requires.placed c.placement.ensures.value c.facts-2.ensures.placement c.front_qubits-front_count.ensures.fine c.requires.stuck c.requires.left in
    omega (arith, ap length (sym c.front_qubits-front_count.ensures.qubits), c.facts.ensures.coupling.graph.limited, s.front_limit)

pub extended_in-extended_count-requires-clause-seen : goal.extended_in-extended_count-requires-clause-seen
extended_in-extended_count-requires-clause-seen c =
    (c.requires.seen.0, seen-sized c.requires.seen.0 c.args.lookout.now c.args.device.now.size (length c.args.state.now.placement) c.args.state.now.rest (sym c.requires.placed) c.requires.seen.1)

pub best_swap-requires-clause-front : goal.best_swap-requires-clause-front
best_swap-requires-clause-front c =
    let s = surveyed c.args.device.now c.args.state.now.placement _ c.args.state.now.rest c.requires.placed c.placement.ensures.value c.facts-2.ensures.placement c.front_qubits-front_count.ensures.fine c.requires.stuck c.requires.left in
    subst (AreWithin c.args.device.now.size) (sym c.front_qubits-front_count.ensures.qubits) s.front_within

pub best_swap-requires-clause-extended : goal.best_swap-requires-clause-extended
best_swap-requires-clause-extended c =
    let s = surveyed c.args.device.now c.args.state.now.placement _ c.args.state.now.rest c.requires.placed c.placement.ensures.value c.facts-2.ensures.placement c.front_qubits-front_count.ensures.fine c.requires.stuck c.requires.left in
    let seen = seen-sized c.requires.seen.0 c.args.lookout.now c.args.device.now.size (length c.args.state.now.placement) c.args.state.now.rest (sym c.requires.placed) c.requires.seen.1 in
    ahead-within c.requires.seen.0 c.args.device.now (length c.args.state.now.placement) c.args.state.now.placement c.args.state.now.rest _ s c.requires.placed (c.extended_in-extended_count.ensures.set c.requires.seen.0 seen)

pub best_swap-requires-clause-front_limit : goal.best_swap-requires-clause-front_limit
best_swap-requires-clause-front_limit c =
    let s = surveyed c.args.device.now c.args.state.now.placement _ c.args.state.now.rest c.requires.placed c.placement.ensures.value c.facts-2.ensures.placement c.front_qubits-front_count.ensures.fine c.requires.stuck c.requires.left in
    omega (arith, ap length (sym c.front_qubits-front_count.ensures.qubits), c.facts.ensures.coupling.graph.limited, s.front_limit)

pub best_swap-requires-clause-extended_limit : goal.best_swap-requires-clause-extended_limit
best_swap-requires-clause-extended_limit c =
    let seen = seen-sized c.requires.seen.0 c.args.lookout.now c.args.device.now.size (length c.args.state.now.placement) c.args.state.now.rest (sym c.requires.placed) c.requires.seen.1 in
    ahead-few c.requires.seen.0 (length c.args.state.now.placement) c.args.state.now.placement c.args.state.now.rest _ (c.extended_in-extended_count.ensures.set c.requires.seen.0 seen)

pub best_swap-requires-clause-some : goal.best_swap-requires-clause-some
best_swap-requires-clause-some c =
    let s = surveyed c.args.device.now c.args.state.now.placement _ c.args.state.now.rest c.requires.placed c.placement.ensures.value c.facts-2.ensures.placement c.front_qubits-front_count.ensures.fine c.requires.stuck c.requires.left in
    omega (arith, ap length (sym c.front_qubits-front_count.ensures.qubits), s.some)

pub best_swap-requires-clause-disjoint : goal.best_swap-requires-clause-disjoint
best_swap-requires-clause-disjoint c =
    let s = surveyed c.args.device.now c.args.state.now.placement _ c.args.state.now.rest c.requires.placed c.placement.ensures.value c.facts-2.ensures.placement c.front_qubits-front_count.ensures.fine c.requires.stuck c.requires.left in
    subst AreApart (sym c.front_qubits-front_count.ensures.qubits) s.disjoint

pub best_swap-requires-clause-far : goal.best_swap-requires-clause-far
best_swap-requires-clause-far c =
    let s = surveyed c.args.device.now c.args.state.now.placement _ c.args.state.now.rest c.requires.placed c.placement.ensures.value c.facts-2.ensures.placement c.front_qubits-front_count.ensures.fine c.requires.stuck c.requires.left in
    subst (AreFar c.args.device.now.edges) (sym c.front_qubits-front_count.ensures.qubits) s.far

pub returns : goal.returns
returns c =
    let q = c.args.state.now.placement in
    let gs = c.args.state.now.rest in
    let s = surveyed c.args.device.now q _ gs c.requires.placed c.placement.ensures.value c.facts-2.ensures.placement c.front_qubits-front_count.ensures.fine c.requires.stuck c.requires.left in
    record {
      best = λ ahead h.
          ahead-best ahead c.args.device.now (length q) q gs _ _ c.best_swap.result.0 c.best_swap.result.1 s c.requires.placed
          (c.extended_in-extended_count.ensures.set ahead (seen-sized ahead c.args.lookout.now c.args.device.now.size (length q) gs (sym c.requires.placed) h)) c.front_qubits-front_count.ensures.qubits c.best_swap.ensures.best;
    }
