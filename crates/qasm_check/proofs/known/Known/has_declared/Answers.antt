use denote.Ref.{Bor}
use Rattle.std.proofs.Common.{ℕ, List, [], ◌||◌, ap, sym, ◌∙◌, get_or}
use Rattle.std.proofs.lemmas.List.Folds.{list_any_at, list_any_more}
use Rattle.qasm_check.specs.Meanings.{names_gate}
use Rattle.qasm_check.specs.State.{state}
use Rattle.qasm_check.proofs.known.Known.has_declared.Goals as goal

pub returns-then-names_gate : goal.returns-then-names_gate
returns-then-names_gate c =
    sym (list_any_at (λ (n : Bor (List ℕ)). names_gate ((state c.args.self.now).declared n.now)) c.args.names.now c.names.name-index _ c.names-test.true
    (ap names_gate (sym c.declared.ensures.value) ∙ sym c.names_gate.ensures.value ∙ c.if-names_gate.true))

pub names-preserved : goal.names-preserved
names-preserved c =
    let d : Bor (List ℕ) = record { ref_ptr = (0, 0); now = [] } in
    let test = λ (n : Bor (List ℕ)). names_gate ((state c.args.self.now).declared n.now) in
    list_any_more test c.args.names.now c.names.name-index d c.names-test.true
    ∙ ap (λ b. b || test (get_or c.args.names.now c.names.name-index d)) c.names.invariant
    ∙ (ap names_gate (sym c.declared.ensures.value) ∙ sym c.names_gate.ensures.value ∙ c.if-names_gate.false)
