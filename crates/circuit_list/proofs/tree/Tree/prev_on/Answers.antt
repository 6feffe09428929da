use Rattle.std.proofs.Common.{◌+◌, ◌<◌, ◌≤◌, true, false, ap, arith, length}
use Rattle.circuit_list.specs.Entries.{entry, is_live}
use Rattle.circuit_list.specs.Tree.{wire_bit}
use Rattle.circuit_list.proofs.OnWireLaws.{NoGateOn-both, NoGateOn-joined, NoGateOn-marked, on_gate}
use Rattle.circuit_list.proofs.TreeLaws.{meets_live}
use Rattle.circuit_list.proofs.tree.Tree.prev_on.Goals as goal

pub gate-requires : goal.gate-requires
gate-requires c = record { live = ap is_live (meets_live (wire_bit c.args.wire) (entry c.args.self.now c.in-Some.prev) c.in-Some.ensures.on).1 }

pub returns-then-is_on : goal.returns-then-is_on
returns-then-is_on c = record {
  found =
      let before : c.in-Some.prev < c.marked.first = c.in-Some.ensures.below in
      let to : c.marked.first ≤ c.args.slot = c.marked.invariant.to in
      record {
        below = omega arith;
        on = on_gate c.args.wire (entry c.args.self.now c.in-Some.prev) c.gate.result c.is_on.result true c.gate.ensures.value c.is_on.ensures.value c.if-is_on.true;
        none = NoGateOn-both c.args.wire c.args.self.now (c.in-Some.prev + 1) c.marked.first c.args.slot
            (NoGateOn-marked c.args.wire c.args.self.now (c.in-Some.prev + 1) c.marked.first c.in-Some.ensures.none) c.marked.invariant.none;
      };
}

pub marked-preserved : goal.marked-preserved
marked-preserved c =
    let before : c.in-Some.prev < c.marked.first = c.in-Some.ensures.below in
    let to : c.marked.first ≤ c.args.slot = c.marked.invariant.to in
    let there : c.marked.first < length c.args.self.now = c.marked.invariant.there in
    record {
      there = omega arith;
      to = omega arith;
      none = NoGateOn-joined c.args.wire c.args.self.now c.in-Some.prev c.in-Some.prev c.args.slot
          (λ s ge lt. absurd (omega arith))
          (on_gate c.args.wire (entry c.args.self.now c.in-Some.prev) c.gate.result c.is_on.result false c.gate.ensures.value c.is_on.ensures.value c.if-is_on.false)
          (NoGateOn-both c.args.wire c.args.self.now (c.in-Some.prev + 1) c.marked.first c.args.slot
          (NoGateOn-marked c.args.wire c.args.self.now (c.in-Some.prev + 1) c.marked.first c.in-Some.ensures.none) c.marked.invariant.none);
    }

pub returns : goal.returns
returns c = record {
  found =
      NoGateOn-both c.args.wire c.args.self.now 0 c.marked.first c.args.slot
      (NoGateOn-marked c.args.wire c.args.self.now 0 c.marked.first c.in_default.ensures) c.marked.invariant.none;
}
