use Rattle.std.proofs.Common.{◌≡◌, ◌<◌, ◌≤◌, false, true, arith, rules}
use Rattle.commute_rules.specs.Commutes.{commutes}
use Rattle.rewrite_steps.proofs.KnownLaws.{live-slot, less-between, next-between, none-behind, on-between, on-more, place-clear, slot-order, slot-stops}
use Rattle.rewrite_steps.proofs.pairs.ahead.Goals as goal

pub returns-in_default : goal.returns-in_default
returns-in_default c =
    let b = c.args.body.now in
    let live = live-slot b c.facts.ensures.slots c.gates.at c.gates.invariant.live in
    on-between c.args.probe b.gates b.slots c.args.from c.gates.at c.args.end c.gates.invariant.clear
    (none-behind c.args.wire c.args.probe b.gates b.slots c.gates.at c.args.end c.facts.ensures.ascend c.requires.probe live c.in_default.ensures.found)

-- the end is no later than the next gate on the wire
pub returns-then-ge : goal.returns-then-ge
returns-then-ge c =
    let b = c.args.body.now in
    let n = c.in-Some.next in
    let live = live-slot b c.facts.ensures.slots c.gates.at c.gates.invariant.live in
    let other = live-slot b c.facts.ensures.slots n c.in-Some.ensures.found.0 in
    let ge : c.args.end ≤ n = search rules in
    on-between c.args.probe b.gates b.slots c.args.from c.gates.at c.args.end c.gates.invariant.clear
    (less-between c.args.probe b.gates b.slots c.gates.at n c.gates.at c.args.end (omega arith) ge
    (next-between c.args.wire c.args.probe b.gates b.slots c.gates.at n c.facts.ensures.ascend c.requires.probe live other c.in-Some.ensures.found.1))

pub returns-then-not-commute : goal.returns-then-not-commute
returns-then-not-commute c =
    let b = c.args.body.now in
    let n = c.in-Some.next in
    let live = live-slot b c.facts.ensures.slots c.gates.at c.gates.invariant.live in
    let other = live-slot b c.facts.ensures.slots n c.in-Some.ensures.found.0 in
    let lt : n < c.args.end = search rules in
    let stops : commutes c.args.probe c.gate_at.result ≡ false = search rules in
    let from = c.gates.invariant.from in
    let more = slot-order b.slots c.gates.at n c.facts.ensures.ascend live other c.in-Some.ensures.found.1.behind in
    slot-stops c.args.probe b.gates b.slots c.args.from c.args.end n c.gate_at.result other c.gate_at.ensures.there stops (omega (arith, from, more)) lt

pub gates-preserved : goal.gates-preserved
gates-preserved c =
    let b = c.args.body.now in
    let n = c.in-Some.next in
    let live = live-slot b c.facts.ensures.slots c.gates.at c.gates.invariant.live in
    let other = live-slot b c.facts.ensures.slots n c.in-Some.ensures.found.0 in
    let passes : commutes c.args.probe c.gate_at.result ≡ true = search rules in
    let from = c.gates.invariant.from in
    let more = slot-order b.slots c.gates.at n c.facts.ensures.ascend live other c.in-Some.ensures.found.1.behind in
    record {
      live = c.in-Some.ensures.found.0;
      on = c.in-Some.ensures.found.1.on;
      from = omega (arith, from, more);
      clear = on-more c.args.probe b.gates b.slots c.args.from c.gates.at n c.gates.invariant.clear
          (next-between c.args.wire c.args.probe b.gates b.slots c.gates.at n c.facts.ensures.ascend c.requires.probe live other c.in-Some.ensures.found.1)
          (place-clear c.args.probe b.gates b.slots n c.gate_at.result c.facts.ensures.ascend other c.gate_at.ensures.there passes);
    }
