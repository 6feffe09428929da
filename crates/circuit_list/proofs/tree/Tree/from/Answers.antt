use Rattle.std.proofs.Common.{◌≡◌, ◌∙◌, true, false, sym, ap, arith, List, Option, is_some}
use Rattle.circuit_list.specs.declared.Gate.{Gate}
use Rattle.circuit_list.specs.Entries.{entry}
use Rattle.circuit_list.specs.Tree.{any_wire, meets}
use Rattle.circuit_list.proofs.WalkLaws.{from-next, none_meets, some_meets}
use Rattle.circuit_list.proofs.tree.Tree.from.Goals as goal

pub returns-then-is_some : goal.returns-then-is_some
returns-then-is_some c = record {
  found =
      let here : c.entry.result ≡ entry c.args.self.now c.args.slot = c.entry.ensures.value ∙ ap (λ (xs : List (Option Gate)). entry xs c.args.slot) (c.deref.ensures.value ∙ c.self.view_is) in
      let on : meets any_wire (entry c.args.self.now c.args.slot) ≡ true = some_meets (entry c.args.self.now c.args.slot) (ap is_some (sym here) ∙ sym c.is_some.ensures.value ∙ c.if-is_some.true) in
      record { from = omega arith; on = on; none = λ s ge lt. absurd (omega arith) };
}

pub returns : goal.returns
unfolding any_wire
returns c = record {
  found =
      let es = c.args.self.now in
      let here : c.entry.result ≡ entry es c.args.slot = c.entry.ensures.value ∙ ap (λ (xs : List (Option Gate)). entry xs c.args.slot) (c.deref.ensures.value ∙ c.self.view_is) in
      let off : meets any_wire (entry es c.args.slot) ≡ false = none_meets (entry es c.args.slot) (ap is_some (sym here) ∙ sym c.is_some.ensures.value ∙ c.if-is_some.false) in
      from-next any_wire es c.args.slot c.first_behind.result off c.first_behind.ensures;
}
