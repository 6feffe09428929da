use Rattle.std.proofs.Common.{◌≡◌, ◌+◌, ◌∙◌, ◌<◌, List, Option, None, sym, subst, arith, length, set}
use Rattle.std.proofs.lemmas.List.{get_or_read}
use Rattle.circuit_list.specs.declared.Gate.{Gate}
use Rattle.circuit_list.specs.Entries.{entry}
use Rattle.circuit_list.proofs.InsertLaws.{IsLaid, laid_all, laid_more, laid_none}
use Rattle.circuit_list.proofs.tree.Tree.lay.Goals.{else-is_due, then-is_due}
use Rattle.circuit_list.proofs.tree.Tree.lay.Goals as goal

pub slots-preserved : goal.slots-preserved
slots-preserved c =
    let es = c.args.self.now in
    let gates = c.args.gates.now in
    let within : c.slots.slot < length c.slots.self = omega (arith, c.slots.invariant.slots, c.requires.within, c.slots-test.true) in
    elim c.if-is_due.branch [
      | then-is_due w ↦
          let few : c.slots.done < length gates = omega (arith, c.is_due.ensures.gate w.if-is_due.true) in
          let put : c.if-is_due.self ≡ set c.slots.self c.slots.slot w.gate.result = w.self-is ∙ w.put.ensures in
          let is : w.gate.result ≡ entry gates c.slots.done = w.gate.ensures.value ∙ get_or_read gates _ _ few w.index-gates-done.is None in
          subst (λ (xs : List (Option Gate)). IsLaid es xs gates c.args.low c.args.high (c.slots.slot + 1) c.if-is_due.done) (sym put)
          (subst (λ d. IsLaid es (set c.slots.self c.slots.slot w.gate.result) gates c.args.low c.args.high (c.slots.slot + 1) d) (sym w.done-is)
          (laid_more es c.slots.self gates c.args.low c.args.high c.slots.slot c.slots.done w.gate.result within few is c.slots.invariant))
      | else-is_due w ↦
          let room : length gates + c.slots.slot < c.args.high + c.slots.done =
          omega (arith, c.is_due.ensures.room w.if-is_due.false, c.slots.invariant.few, c.slots-test.true) in
          let put : c.if-is_due.self ≡ set c.slots.self c.slots.slot None = w.self-is ∙ w.put-else-is_due.ensures in
          subst (λ (xs : List (Option Gate)). IsLaid es xs gates c.args.low c.args.high (c.slots.slot + 1) c.if-is_due.done) (sym put)
          (subst (λ d. IsLaid es (set c.slots.self c.slots.slot None) gates c.args.low c.args.high (c.slots.slot + 1) d) (sym w.done-is)
          (laid_none es c.slots.self gates c.args.low c.args.high c.slots.slot c.slots.done within room c.slots.invariant))
    ]

pub returns : goal.returns
returns c =
    let all : c.slots.slot ≡ c.args.high = omega (arith, c.slots.auto.slot-end, c.slots-test.false, c.requires.room) in
    laid_all c.args.self.now c.slots.self c.args.gates.now c.args.low c.args.high c.slots.done
    (subst (λ s. IsLaid c.args.self.now c.slots.self c.args.gates.now c.args.low c.args.high s c.slots.done) all c.slots.invariant)
