use Rattle.std.proofs.Common.{◌≡◌, ◌<◌, ◌≤◌, false, true, arith, rules}
use Rattle.commute_rules.specs.Commutes.{commutes}
use Rattle.rewrite_steps.proofs.KnownLaws.{back-between, back-more, less-between, live-slot, none-before, place-clear, prev-between, slot-order, slot-stops}
use Rattle.rewrite_steps.proofs.pairs.behind.Goals as goal

pub returns-in_default : goal.returns-in_default
returns-in_default c =
    let b = c.args.body.now in
    let live = live-slot b c.facts.ensures.slots c.gates.at c.gates.invariant.live in
    back-between c.args.probe b.gates b.slots c.args.start c.gates.at c.args.to c.gates.invariant.clear
    (none-before c.args.wire c.args.probe b.gates b.slots c.gates.at c.args.start c.facts.ensures.ascend c.requires.probe live c.in_default.ensures.found)

-- the last gate on the wire is no later than the start
pub returns-then-le : goal.returns-then-le
returns-then-le c =
    let b = c.args.body.now in
    let n = c.in-Some.next in
    let live = live-slot b c.facts.ensures.slots c.gates.at c.gates.invariant.live in
    let other = live-slot b c.facts.ensures.slots n c.in-Some.ensures.found.0 in
    let le : n ≤ c.args.start = search rules in
    back-between c.args.probe b.gates b.slots c.args.start c.gates.at c.args.to c.gates.invariant.clear
    (less-between c.args.probe b.gates b.slots n c.gates.at c.args.start c.gates.at le (omega arith)
    (prev-between c.args.wire c.args.probe b.gates b.slots c.gates.at n c.facts.ensures.ascend c.requires.probe live other c.in-Some.ensures.found.1))

pub returns-then-not-commute : goal.returns-then-not-commute
returns-then-not-commute c =
    let b = c.args.body.now in
    let n = c.in-Some.next in
    let live = live-slot b c.facts.ensures.slots c.gates.at c.gates.invariant.live in
    let other = live-slot b c.facts.ensures.slots n c.in-Some.ensures.found.0 in
    let lt : c.args.start < n = search rules in
    let stops : commutes c.args.probe c.gate_at.result ≡ false = search rules in
    let to = c.gates.invariant.to in
    let less = slot-order b.slots n c.gates.at c.facts.ensures.ascend other live c.in-Some.ensures.found.1.before in
    slot-stops c.args.probe b.gates b.slots c.args.start c.args.to n c.gate_at.result other c.gate_at.ensures.there stops lt (omega (arith, to, less))

pub gates-preserved : goal.gates-preserved
gates-preserved c =
    let b = c.args.body.now in
    let n = c.in-Some.next in
    let live = live-slot b c.facts.ensures.slots c.gates.at c.gates.invariant.live in
    let other = live-slot b c.facts.ensures.slots n c.in-Some.ensures.found.0 in
    let passes : commutes c.args.probe c.gate_at.result ≡ true = search rules in
    let to = c.gates.invariant.to in
    let less = slot-order b.slots n c.gates.at c.facts.ensures.ascend other live c.in-Some.ensures.found.1.before in
    record {
      live = c.in-Some.ensures.found.0;
      on = c.in-Some.ensures.found.1.on;
      to = omega (arith, to, less);
      clear = back-more c.args.probe b.gates b.slots n c.gates.at c.args.to c.gates.invariant.clear
          (prev-between c.args.wire c.args.probe b.gates b.slots c.gates.at n c.facts.ensures.ascend c.requires.probe live other c.in-Some.ensures.found.1)
          (place-clear c.args.probe b.gates b.slots n c.gate_at.result c.facts.ensures.ascend other c.gate_at.ensures.there passes);
    }
