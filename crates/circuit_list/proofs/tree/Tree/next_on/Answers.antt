use Rattle.std.proofs.Common.{◌+◌, ◌≤◌, true, false, ap, arith, length}
use Rattle.circuit_list.specs.Entries.{entry, is_live}
use Rattle.circuit_list.specs.Tree.{wire_bit}
use Rattle.circuit_list.proofs.EntryLaws.{slot_below}
use Rattle.circuit_list.proofs.OnWireLaws.{NoGateOn-both, NoGateOn-joined, NoGateOn-marked, on_gate}
use Rattle.circuit_list.proofs.TreeLaws.{meets_live}
use Rattle.circuit_list.proofs.tree.Tree.next_on.Goals as goal

pub gate-requires : goal.gate-requires
gate-requires c = record { live = ap is_live (meets_live (wire_bit c.args.wire) (entry c.args.self.now c.in-Some.next) c.in-Some.ensures.on).1 }

pub returns-then-is_on : goal.returns-then-is_on
returns-then-is_on c = record {
  found =
      let after : c.marked.last + 1 ≤ c.in-Some.next = c.in-Some.ensures.from in
      let from : c.args.slot ≤ c.marked.last = c.marked.invariant.from in
      record {
        from = omega arith;
        on = on_gate c.args.wire (entry c.args.self.now c.in-Some.next) c.gate.result c.is_on.result true c.gate.ensures.value c.is_on.ensures.value c.if-is_on.true;
        none = NoGateOn-both c.args.wire c.args.self.now (c.args.slot + 1) (c.marked.last + 1) c.in-Some.next c.marked.invariant.none
            (NoGateOn-marked c.args.wire c.args.self.now (c.marked.last + 1) c.in-Some.next c.in-Some.ensures.none);
      };
}

pub marked-preserved : goal.marked-preserved
marked-preserved c =
    let after : c.marked.last + 1 ≤ c.in-Some.next = c.in-Some.ensures.from in
    let from : c.args.slot ≤ c.marked.last = c.marked.invariant.from in
    let live = meets_live (wire_bit c.args.wire) (entry c.args.self.now c.in-Some.next) c.in-Some.ensures.on in
    record {
      there = slot_below c.args.self.now c.in-Some.next live.0 live.1;
      from = omega arith;
      none = NoGateOn-joined c.args.wire c.args.self.now (c.args.slot + 1) c.in-Some.next (c.in-Some.next + 1)
          (NoGateOn-both c.args.wire c.args.self.now (c.args.slot + 1) (c.marked.last + 1) c.in-Some.next c.marked.invariant.none
          (NoGateOn-marked c.args.wire c.args.self.now (c.marked.last + 1) c.in-Some.next c.in-Some.ensures.none))
          (on_gate c.args.wire (entry c.args.self.now c.in-Some.next) c.gate.result c.is_on.result false c.gate.ensures.value c.is_on.ensures.value c.if-is_on.false)
          (λ s ge lt. absurd (omega arith));
    }

pub returns : goal.returns
returns c = record {
  found =
      NoGateOn-both c.args.wire c.args.self.now (c.args.slot + 1) (c.marked.last + 1) (length c.args.self.now) c.marked.invariant.none
      (NoGateOn-marked c.args.wire c.args.self.now (c.marked.last + 1) (length c.args.self.now) c.in_default.ensures);
}
