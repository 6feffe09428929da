use Rattle.std.proofs.Common.{◌≡◌, true, false, sym, ◌∙◌, refl, map}
use Rattle.std.specs.List.{list_any}
use Rattle.qasm_parser.specs.Tree.{action}
use Rattle.qasm_check.specs.Bodies.{declaration}
use Rattle.qasm_check.specs.Known.{meaning}
use Rattle.qasm_check.specs.Meanings.{names_register}
use Rattle.qasm_check.specs.Refusals.{applies_opaque, gate_taken, in_body, params_differ, qubits_differ, repeats_name, unknown_in_body}
use Rattle.qasm_check.specs.State.{state}
use Rattle.qasm_check.proofs.body.tested.Goals as goal

pub returns-then-flaws-2-clause-err : goal.returns-then-flaws-2-clause-err
returns-then-flaws-2-clause-err c =
    let K = state c.args.known.now in
    let g = c.args.definition.now in
    let taken : gate_taken K (declaration g) ≡ false = sym c.in_ok-is_taken.ensures ∙ c.if-branch.false in
    let unknown : list_any (unknown_in_body K g.params.items g.qubits.items) (map action g.body.items) ≡ false = sym c.requires.unknown ∙ c.if-flaws.false in
    let register : list_any (in_body (λ a. names_register (meaning K a.gate))) (map action g.body.items) ≡ true = sym c.requires.register ∙ c.if-flaws-2.true in
    rw (taken, unknown, register) refl

pub returns-then-flaws-3-clause-err : goal.returns-then-flaws-3-clause-err
returns-then-flaws-3-clause-err c =
    let K = state c.args.known.now in
    let g = c.args.definition.now in
    let taken : gate_taken K (declaration g) ≡ false = sym c.in_ok-is_taken.ensures ∙ c.if-branch.false in
    let unknown : list_any (unknown_in_body K g.params.items g.qubits.items) (map action g.body.items) ≡ false = sym c.requires.unknown ∙ c.if-flaws.false in
    let register : list_any (in_body (λ a. names_register (meaning K a.gate))) (map action g.body.items) ≡ false = sym c.requires.register ∙ c.if-flaws-2.false in
    let params : list_any (in_body (params_differ K)) (map action g.body.items) ≡ true = sym c.requires.params ∙ c.if-flaws-3.true in
    rw (taken, unknown, register, params) refl

pub returns-then-flaws-4-clause-err : goal.returns-then-flaws-4-clause-err
returns-then-flaws-4-clause-err c =
    let K = state c.args.known.now in
    let g = c.args.definition.now in
    let taken : gate_taken K (declaration g) ≡ false = sym c.in_ok-is_taken.ensures ∙ c.if-branch.false in
    let unknown : list_any (unknown_in_body K g.params.items g.qubits.items) (map action g.body.items) ≡ false = sym c.requires.unknown ∙ c.if-flaws.false in
    let register : list_any (in_body (λ a. names_register (meaning K a.gate))) (map action g.body.items) ≡ false = sym c.requires.register ∙ c.if-flaws-2.false in
    let params : list_any (in_body (params_differ K)) (map action g.body.items) ≡ false = sym c.requires.params ∙ c.if-flaws-3.false in
    let qubits : list_any (in_body (qubits_differ K)) (map action g.body.items) ≡ true = sym c.requires.qubits ∙ c.if-flaws-4.true in
    rw (taken, unknown, register, params, qubits) refl

pub returns-then-flaws-5-clause-err : goal.returns-then-flaws-5-clause-err
returns-then-flaws-5-clause-err c =
    let K = state c.args.known.now in
    let g = c.args.definition.now in
    let taken : gate_taken K (declaration g) ≡ false = sym c.in_ok-is_taken.ensures ∙ c.if-branch.false in
    let unknown : list_any (unknown_in_body K g.params.items g.qubits.items) (map action g.body.items) ≡ false = sym c.requires.unknown ∙ c.if-flaws.false in
    let register : list_any (in_body (λ a. names_register (meaning K a.gate))) (map action g.body.items) ≡ false = sym c.requires.register ∙ c.if-flaws-2.false in
    let params : list_any (in_body (params_differ K)) (map action g.body.items) ≡ false = sym c.requires.params ∙ c.if-flaws-3.false in
    let qubits : list_any (in_body (qubits_differ K)) (map action g.body.items) ≡ false = sym c.requires.qubits ∙ c.if-flaws-4.false in
    let repeated : list_any (in_body repeats_name) (map action g.body.items) ≡ true = sym c.requires.repeated ∙ c.if-flaws-5.true in
    rw (taken, unknown, register, params, qubits, repeated) refl

pub returns-then-flaws-6-clause-err : goal.returns-then-flaws-6-clause-err
returns-then-flaws-6-clause-err c =
    let K = state c.args.known.now in
    let g = c.args.definition.now in
    let taken : gate_taken K (declaration g) ≡ false = sym c.in_ok-is_taken.ensures ∙ c.if-branch.false in
    let unknown : list_any (unknown_in_body K g.params.items g.qubits.items) (map action g.body.items) ≡ false = sym c.requires.unknown ∙ c.if-flaws.false in
    let register : list_any (in_body (λ a. names_register (meaning K a.gate))) (map action g.body.items) ≡ false = sym c.requires.register ∙ c.if-flaws-2.false in
    let params : list_any (in_body (params_differ K)) (map action g.body.items) ≡ false = sym c.requires.params ∙ c.if-flaws-3.false in
    let qubits : list_any (in_body (qubits_differ K)) (map action g.body.items) ≡ false = sym c.requires.qubits ∙ c.if-flaws-4.false in
    let repeated : list_any (in_body repeats_name) (map action g.body.items) ≡ false = sym c.requires.repeated ∙ c.if-flaws-5.false in
    let opaque : list_any (in_body (applies_opaque K)) (map action g.body.items) ≡ true = sym c.requires.opaque ∙ c.if-flaws-6.true in
    rw (taken, unknown, register, params, qubits, repeated, opaque) refl

pub returns-clause-ok : goal.returns-clause-ok
returns-clause-ok c =
    let K = state c.args.known.now in
    let g = c.args.definition.now in
    let taken : gate_taken K (declaration g) ≡ false = sym c.in_ok-is_taken.ensures ∙ c.if-branch.false in
    let unknown : list_any (unknown_in_body K g.params.items g.qubits.items) (map action g.body.items) ≡ false = sym c.requires.unknown ∙ c.if-flaws.false in
    let register : list_any (in_body (λ a. names_register (meaning K a.gate))) (map action g.body.items) ≡ false = sym c.requires.register ∙ c.if-flaws-2.false in
    let params : list_any (in_body (params_differ K)) (map action g.body.items) ≡ false = sym c.requires.params ∙ c.if-flaws-3.false in
    let qubits : list_any (in_body (qubits_differ K)) (map action g.body.items) ≡ false = sym c.requires.qubits ∙ c.if-flaws-4.false in
    let repeated : list_any (in_body repeats_name) (map action g.body.items) ≡ false = sym c.requires.repeated ∙ c.if-flaws-5.false in
    let opaque : list_any (in_body (applies_opaque K)) (map action g.body.items) ≡ false = sym c.requires.opaque ∙ c.if-flaws-6.false in
    rw (taken, unknown, register, params, qubits, repeated, opaque) refl
