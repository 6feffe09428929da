-- One argument more.
use Rattle.std.proofs.Common.{◌≡◌, Bool, not, true, false, Option, Some, None, refl, ◌∙◌, ap}
use Rattle.std.specs.Prelude.{is_none, is_some}
use Rattle.qasm_check.specs.Arguments.{operand}
use Rattle.qasm_check.specs.Known.{meaning}
use Rattle.qasm_check.specs.Meanings.{is_past_end, is_other, operand_in}
use Rattle.qasm_check.specs.Refusals.{is_beyond, is_unknown, is_wrong}
use Rattle.qasm_check.specs.State.{state}
use Rattle.qasm_check.proofs.LoopLaws.{filter_map_step, list_any_step}
use Rattle.qasm_check.proofs.arguments.named.Goals as goal

none_by : {A : Type 0} (m : Option A) (b : Bool) → is_some m ≡ not b → b ≡ is_none m
none_by (Some x) true e = cc
none_by (Some x) false e = refl
none_by None true e = refl
none_by None false e = cc

pub each-preserved : goal.each-preserved
each-preserved c =
    let K = state c.args.known.now in
    let xs = c.args.args.now in
    let i = c.each.arg-index in
    let x = c.arg-item.result in
    let before = c.each.invariant in
    let found : c.meaning-found.result ≡ meaning K x.name = c.meaning-found.ensures.value ∙ ap (meaning K) c.as_bytes.ensures.value in (
      list_any_step (is_unknown K) xs i x _ _ c.each-test.true c.arg-item.is before.0 (none_by _ _ c.is_none-unknown.ensures ∙ ap is_none found),
      list_any_step (is_wrong K true) xs i x _ _ c.each-test.true c.arg-item.is before.1 (c.is_other-wrong.ensures.value ∙ ap (is_other true) found),
      list_any_step (is_beyond K) xs i x _ _ c.each-test.true c.arg-item.is before.2 (c.is_past_end-beyond.ensures.value ∙ ap (λ m. is_past_end m x.index) found),
      filter_map_step (operand K) xs i x _ _ _ c.each-test.true c.arg-item.is before.3 (c.operand_in.ensures.value ∙ ap (λ m. operand_in m x.index) found) c.in_ok-add.ensures,
    )
