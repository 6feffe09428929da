use Rattle.std.proofs.Common.{◌≡◌, ◌∙◌, ℕ, List, [], ◌∷◌, All, arith, subst, sym}
use Rattle.circuit_list.specs.Gates.{IsFine}
use Rattle.circuit_list.specs.declared.Gate.{Gate}
use Rattle.circuit_list.specs.declared.Passed.{Passed}
use Rattle.path_parity.specs.NamedSums.{SamePathSum}
use Rattle.rewrite_pass.specs.Traces.{constants_turn}
use Rattle.trace_text.specs.Texts.{lines_of}
use Rattle.trace_model.specs.Spelling.{AreSmall}
use Rattle.trace_model.specs.Proves.{slice_of}
use Rattle.trace_check.proofs.PartStepLaws.{blocked-part, no-order, no-part_gates, no-part_sum, no-three, part-leads}
use Rattle.trace_check.proofs.WordLaws.{none-of, some-of}
use Rattle.trace_check.proofs.parts.replaced_part.Goals as goal
use Rattle.trace_check.proofs.parts.replaced_part.Goals.{then-first-end-via-then-first-end, then-first-end-via-else-first-end+then-end-len}

pub returns-in_default-clause-step : goal.returns-in_default-clause-step
returns-in_default-clause-step c =
    let ks : List ℕ = c.args.numbers.now.items in
    let small : AreSmall ks = subst AreSmall c.deref.ensures.value c.known_small.ensures.small in
    let lines : List (List ℕ) = lines_of c.args.mark.text.now in
    blocked-part ks c.args.state.now lines small (no-three ks c.args.state.now lines (λ i j k is. c.in_default.ensures.found i j k (c.deref-2.ensures.value ∙ is)))

pub returns-then-first-end-clause-step : goal.returns-then-first-end-clause-step
returns-then-first-end-clause-step c =
    let ks : List ℕ = c.args.numbers.now.items in
    let small : AreSmall ks = subst AreSmall c.deref.ensures.value c.known_small.ensures.small in
    let s : Passed = c.args.state.now in
    let lines : List (List ℕ) = lines_of c.args.mark.text.now in
    let numbers : ks ≡ c.in-Some.from ∷ c.in-Some.to ∷ c.in-Some.count ∷ [] = sym c.deref-2.ensures.value ∙ c.in-Some.ensures.found in
    blocked-part ks s lines small
    (no-order ks c.in-Some.from c.in-Some.to c.in-Some.count s lines numbers
    (λ ordered within. elim c.then-first-end.branch [
      | then-first-end-via-then-first-end w ↦ absurd (omega (arith, ordered, w.if-first-end.true))
      | then-first-end-via-else-first-end+then-end-len w ↦ absurd (omega (arith, within, w.if-end-len.true, w.len.ensures.value))
    ]))

pub returns-in_default-2-clause-step : goal.returns-in_default-2-clause-step
returns-in_default-2-clause-step c =
    let ks : List ℕ = c.args.numbers.now.items in
    let small : AreSmall ks = subst AreSmall c.deref.ensures.value c.known_small.ensures.small in
    let s : Passed = c.args.state.now in
    let lines : List (List ℕ) = lines_of c.args.mark.text.now in
    let numbers : ks ≡ c.in-Some.from ∷ c.in-Some.to ∷ c.in-Some.count ∷ [] = sym c.deref-2.ensures.value ∙ c.in-Some.ensures.found in
    let none = none-of _ c.in_ok-listed.field-0 _ c.in_default-2.is c.in_ok-listed.ensures.none in
    blocked-part ks s lines small
    (no-part_gates ks c.in-Some.from c.in-Some.to c.in-Some.count s lines numbers (λ gs rest long fine few left. none gs rest long (subst (λ n. All (IsFine n) gs) (sym c.wires.ensures.wires) fine) few left))

pub returns-in_default-3-clause-step : goal.returns-in_default-3-clause-step
returns-in_default-3-clause-step c =
    let ks : List ℕ = c.args.numbers.now.items in
    let small : AreSmall ks = subst AreSmall c.deref.ensures.value c.known_small.ensures.small in
    let s : Passed = c.args.state.now in
    let lines : List (List ℕ) = lines_of c.args.mark.text.now in
    let numbers : ks ≡ c.in-Some.from ∷ c.in-Some.to ∷ c.in-Some.count ∷ [] = sym c.deref-2.ensures.value ∙ c.in-Some.ensures.found in
    let h = some-of _ c.in_ok-listed.field-0 c.in-Some-2.listed _ c.in-Some-2.is c.in_ok-listed.ensures.some in
    let gates : List Gate = c.in-Some-2.listed.body.gates in
    let wires : c.in-Some-2.listed.body.wires ≡ s.body.wires = h.0 ∙ c.wires.ensures.wires in
    let fine : All (IsFine s.body.wires) gates = subst (λ n. All (IsFine n) gates) wires c.facts-2.ensures.fine in
    let none = none-of _ c.in_ok-turn.field-0 _ c.in_default-3.is c.in_ok-turn.ensures.same in
    blocked-part ks s lines small
    (no-part_sum ks c.in-Some.from c.in-Some.to c.in-Some.count s lines (lines_of c.in-Some-2.listed.behind.now) gates numbers c.facts.ensures.wires_limit fine h.1.0 h.1.1
    (λ same. none (subst (λ n. SamePathSum n c.in_ok-old.old.gates gates) (sym c.in_ok-old.ensures.wires) (subst (λ p. SamePathSum s.body.wires p gates) (sym c.in_ok-old.ensures.gates) same))))

pub returns-clause-step : goal.returns-clause-step
returns-clause-step c =
    let ks : List ℕ = c.args.numbers.now.items in
    let small : AreSmall ks = subst AreSmall c.deref.ensures.value c.known_small.ensures.small in
    let s : Passed = c.args.state.now in
    let lines : List (List ℕ) = lines_of c.args.mark.text.now in
    let numbers : ks ≡ c.in-Some.from ∷ c.in-Some.to ∷ c.in-Some.count ∷ [] = sym c.deref-2.ensures.value ∙ c.in-Some.ensures.found in
    let h = some-of _ c.in_ok-listed.field-0 c.in-Some-2.listed _ c.in-Some-2.is c.in_ok-listed.ensures.some in
    let gates : List Gate = c.in-Some-2.listed.body.gates in
    let wires : c.in-Some-2.listed.body.wires ≡ s.body.wires = h.0 ∙ c.wires.ensures.wires in
    let fine : All (IsFine s.body.wires) gates = subst (λ n. All (IsFine n) gates) wires c.facts-2.ensures.fine in
    let i : ℕ = c.in-Some.from in
    let j : ℕ = c.in-Some.to in
    let part : List Gate = slice_of s.body.gates i j in
    let same = some-of _ c.in_ok-turn.field-0 c.in-Some-3.turn _ c.in-Some-3.is c.in_ok-turn.ensures.same in
    let old : SamePathSum s.body.wires part gates = subst (λ p. SamePathSum s.body.wires p gates) c.in_ok-old.ensures.gates (subst (λ n. SamePathSum n c.in_ok-old.old.gates gates) c.in_ok-old.ensures.wires same.0) in
    let turn : c.in-Some-3.turn ≡ constants_turn s.body.wires part gates = same.1 ∙ (λ z. constants_turn (c.in_ok-old.ensures.wires z) (c.in_ok-old.ensures.gates z) gates) in
    part-leads ks i j c.in-Some.count gates s (record { body = c.put_part.new.body; turn = c.turn_sum-state.result }) c.in-Some-3.turn lines (lines_of c.in-Some-2.listed.behind.now) small numbers
    c.facts.ensures.wires_limit fine h.1.0 h.1.1 (omega (arith, c.if-first-end.false)) (omega (arith, c.if-end-len.false, c.len.ensures.value)) old turn c.in_ok-put_part.ensures.gates c.turn_sum-state.ensures.sum
