use Rattle.std.proofs.Common.{◌≡◌, ◌∙◌, ◌-◌, true, sym, ap, arith, List, Option, is_some}
use Rattle.circuit_list.specs.declared.Gate.{Gate}
use Rattle.circuit_list.specs.Entries.{entry}
use Rattle.circuit_list.specs.Tree.{any_wire, meets}
use Rattle.circuit_list.proofs.WalkLaws.{some_meets}
use Rattle.circuit_list.proofs.tree.Tree.prev.Goals as goal

pub returns-then-is_some : goal.returns-then-is_some
returns-then-is_some c = record {
  found =
      let here : c.entry.result ≡ entry c.args.self.now (c.args.slot - 1) =
      c.entry.ensures.value ∙ ap (λ (xs : List (Option Gate)). entry xs (c.args.slot - 1)) (c.deref.ensures.value ∙ c.self.view_is) in
      let on : meets any_wire (entry c.args.self.now (c.args.slot - 1)) ≡ true =
      some_meets (entry c.args.self.now (c.args.slot - 1)) (ap is_some (sym here) ∙ sym c.is_some.ensures.value ∙ c.if-is_some.true) in
      record { below = omega arith; on = on; none = λ s ge lt. absurd (omega arith) };
}

pub returns : goal.returns
unfolding any_wire
returns c = record { found = c.last_before.ensures }
