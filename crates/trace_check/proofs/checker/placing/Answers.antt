use Rattle.std.proofs.Common.{◌≡◌, ◌∙◌, ◌≤◌, ℕ, List, IfNone, IfSome, arith, length, refl, subst, sym}
use Rattle.trace_check.proofs.RoutedLaws.{numbers-small}
use Rattle.trace_check.proofs.StepLaws.{came-place, stuck-place}
use Rattle.unitary_model.specs.Placement.{IsPlacement}
use Rattle.trace_check.proofs.checker.placing.Goals as goal
use Rattle.trace_check.proofs.checker.placing.Goals.{then-numbers-qubits-via-then-numbers-qubits, then-numbers-qubits-via-else-numbers-qubits+then-wires-qubits}

pub returns-then-numbers-qubits-clause-place : goal.returns-then-numbers-qubits-clause-place
returns-then-numbers-qubits-clause-place c = λ e v behind q r.
    stuck-place e v c.args.state c.args.numbers.now behind (numbers-small c.args.numbers.now c.type_inv.numbers)
    (λ fits p. elim c.then-numbers-qubits.branch [
      | then-numbers-qubits-via-then-numbers-qubits w ↦ absurd (omega (arith, p.long, r))
      | then-numbers-qubits-via-else-numbers-qubits+then-wires-qubits w ↦ absurd (omega (arith, fits, q, r, w.wires.ensures.wires))
    ])

pub returns-in_default-clause-place : goal.returns-in_default-clause-place
returns-in_default-clause-place c = λ e v behind q r.
    let ks : List ℕ = c.args.numbers.now in
    stuck-place e v c.args.state ks behind (numbers-small ks c.type_inv.numbers)
    (λ fits p. subst (λ o. IfNone o (IsPlacement (length ks) ks → ⊥)) c.in_default.is c.in_ok-now.ensures.none (subst (λ n. IsPlacement n ks) (sym p.long) p))

pub returns-clause-place : goal.returns-clause-place
returns-clause-place c = λ e v trace behind n q r k.
    let ks : List ℕ = c.args.numbers.now in
    let long : length ks ≡ c.args.qubits = omega arith in
    let here : IsPlacement (length ks) ks = subst (λ o. IfSome o (λ p. IsPlacement (length ks) ks)) c.in-Some.is c.in_ok-now.ensures.placement in
    let fits : e.wires ≤ e.qubits = omega (arith, q, r, c.wires.ensures.wires) in
    came-place e v trace c.args.state _ ks behind n (numbers-small ks c.type_inv.numbers) fits (subst (λ m. IsPlacement m ks) (long ∙ sym r) here)
    c.in_ok-from_slice.ensures.items (subst (λ o. IfSome o (λ p. p ≡ ks)) c.in-Some.is c.in_ok-now.ensures.some) refl refl refl k
