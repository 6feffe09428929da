use denote.Ref.{Bor}
use Rattle.std.proofs.Common.{ℕ, List, ap, sym, ◌∙◌}
use Rattle.std.specs.List.{list_any}
use Rattle.qasm_check.specs.Meanings.{names_gate}
use Rattle.qasm_check.specs.State.{state}
use Rattle.qasm_check.proofs.LoopLaws.{list_any-map}
use Rattle.qasm_check.proofs.known.Known.has_standard.Goals as goal

pub returns : goal.returns
returns c = record {
  value =
      let test = λ (name : List ℕ). names_gate ((state c.args.self.now).declared name) in
      c.has_declared.ensures ∙ sym (list_any-map test (λ (n : Bor (List ℕ)). n.now) c.standard_names.result.now)
      ∙ ap (list_any test) c.standard_names.ensures.value;
}
