use Rattle.std.proofs.Common.{◌≡◌, false, List, ap, sym, subst, ◌∙◌, refl}
use Rattle.std.specs.List.{list_any}
use Rattle.qasm_parser.specs.Tree.{application, apply}
use Rattle.gate_library.specs.Operands.{broadcast, wires_of, differs_from, repeats}
use Rattle.qasm_check.specs.Arguments.{operands}
use Rattle.qasm_check.specs.Naming.{AreNamed}
use Rattle.qasm_check.specs.Refusals.{applies_opaque, is_beyond, params_differ, qubits_differ, unknown_in_act, wrong_in_act}
use Rattle.qasm_check.specs.State.{state}
use Rattle.gate_library.specs.declared.operand.Operand.{Operand}
use Rattle.qasm_check.proofs.act.tested.Goals as goal

pub returns-clause-ok : goal.returns-clause-ok
returns-clause-ok c =
    let K = state c.args.known.now in
    let a = application c.args.apply.now in
    let is : AreNamed K a.args c.in_ok-named.named = subst (λ xs. AreNamed K xs c.in_ok-named.named) c.as_slice.ensures c.in_ok-named.ensures.ok in
    let ps : c.in_ok-named.named.operands.items ≡ operands K a.args = is.operands in
    let unknown : unknown_in_act K (apply a) ≡ false = sym (c.is_unknown_in.ensures K c.requires.found is) ∙ c.if-is_unknown_in.false in
    let wrong : wrong_in_act K (apply a) ≡ false = sym (c.is_wrong_in.ensures K c.requires.found is) ∙ c.if-is_wrong_in.false in
    let beyond : list_any (is_beyond K) a.args ≡ false = sym is.beyond ∙ c.if-named.false in
    let params : params_differ K a ≡ false = sym c.params_differ.ensures.value ∙ c.if-params_differ.false in
    let qubits : qubits_differ K a ≡ false = sym c.qubits_differ.ensures.value ∙ c.if-qubits_differ.false in
    let sizes : list_any (differs_from (broadcast (operands K a.args))) (operands K a.args) ≡ false =
    ap (λ (xs : List Operand). list_any (differs_from (broadcast xs)) xs) (sym (c.as_slice-2.ensures ∙ ps)) ∙ sym c.sizes_differ.ensures.value ∙ c.if-sizes_differ.false in
    let repeated : repeats (operands K a.args) ≡ false =
    ap repeats (sym (c.as_slice-3.ensures ∙ ps)) ∙ sym c.in_ok-repeats_wire.ensures.ok ∙ c.if-branch.false in
    let closed : applies_opaque K a ≡ false = sym c.applies_opaque.ensures.value ∙ c.if-applies_opaque.false in
    let measured : list_any (λ p. list_any K.measured (wires_of p)) (operands K a.args) ≡ false =
    ap (list_any (λ p. list_any K.measured (wires_of p))) (sym (c.as_slice-4.ensures ∙ ps)) ∙ sym c.any_measured.ensures.value ∙ c.if-any_measured.false in
    (rw (unknown, wrong, beyond, params, qubits, sizes, repeated, closed, measured) refl, ps)
