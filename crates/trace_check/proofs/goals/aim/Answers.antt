use Rattle.std.proofs.Common.{◌≡◌, ◌∙◌, ℕ, List, [], ◌∷◌, All, None, Some, refl, subst, sym}
use Rattle.std.specs.Prelude.{codes}
use Rattle.circuit_list.specs.declared.Gate.{Gate}
use Rattle.circuit_list.specs.Gates.{IsFine}
use Rattle.circuit_list.specs.declared.Passed.{Passed}
use Rattle.rewrite_pass.specs.TraceLines.{words}
use Rattle.trace_text.specs.Texts.{lines_of}
use Rattle.trace_check.specs.Progress.{LeadsOn}
use Rattle.trace_check.specs.declared.goals.Held.{Held}
use Rattle.trace_model.specs.declared.word.Word.TheVariants as kind
use Rattle.trace_model.specs.Spelling.{AreSmall}
use Rattle.trace_check.proofs.GoalLaws.{goal-held, goal-turns, no-goal_count, no-goal_gates, none-held, stands-goal}
use Rattle.trace_check.proofs.WordLaws.{none-of, some-of}
use Rattle.trace_check.proofs.goals.aim.Goals as goal

pub returns-then-is_some-clause-step : goal.returns-then-is_some-clause-step
returns-then-is_some-clause-step c =
    let ks : List ℕ = c.args.numbers.now.items in
    let small : AreSmall ks = subst AreSmall c.deref.ensures.value c.known_small.ensures.small in
    let lines : List (List ℕ) = lines_of c.args.mark.text.now in
    stands-goal c.args.held.now ks c.args.state.now lines small (goal-held c.args.held.now ks c.args.state.now lines (sym c.is_some.ensures ∙ c.if-is_some.true))

pub returns-in_default-clause-step : goal.returns-in_default-clause-step
returns-in_default-clause-step c =
    let ks : List ℕ = c.args.numbers.now.items in
    let small : AreSmall ks = subst AreSmall c.deref.ensures.value c.known_small.ensures.small in
    let lines : List (List ℕ) = lines_of c.args.mark.text.now in
    stands-goal c.args.held.now ks c.args.state.now lines small (no-goal_count c.args.held.now ks c.args.state.now lines (λ i is. c.in_default.ensures.found i (c.deref-2.ensures.value ∙ is)))

pub returns-in_default-2-clause-step : goal.returns-in_default-2-clause-step
returns-in_default-2-clause-step c =
    let ks : List ℕ = c.args.numbers.now.items in
    let small : AreSmall ks = subst AreSmall c.deref.ensures.value c.known_small.ensures.small in
    let lines : List (List ℕ) = lines_of c.args.mark.text.now in
    let count : ks ≡ c.in-Some.count ∷ [] = sym c.deref-2.ensures.value ∙ c.in-Some.ensures.found in
    let none = none-of _ c.in_ok-listed.field-0 _ c.in_default-2.is c.in_ok-listed.ensures.none in
    stands-goal c.args.held.now ks c.args.state.now lines small
    (no-goal_gates c.args.held.now ks c.in-Some.count c.args.state.now lines count (λ gs rest long fine few left. none gs rest long (subst (λ n. All (IsFine n) gs) (sym c.wires.ensures.wires) fine) few left))

pub returns-clause-step : goal.returns-clause-step
returns-clause-step c =
    let ks : List ℕ = c.args.numbers.now.items in
    let small : AreSmall ks = subst AreSmall c.deref.ensures.value c.known_small.ensures.small in
    let s : Passed = c.args.state.now in
    let lines : List (List ℕ) = lines_of c.args.mark.text.now in
    let behind : List (List ℕ) = lines_of c.in-Some-2.listed.behind.now in
    let given : List (List ℕ) = words (codes "goal") ks ∷ lines in
    let count : ks ≡ c.in-Some.count ∷ [] = sym c.deref-2.ensures.value ∙ c.in-Some.ensures.found in
    let h = some-of _ c.in_ok-listed.field-0 c.in-Some-2.listed _ c.in-Some-2.is c.in_ok-listed.ensures.some in
    let gates : List Gate = c.in-Some-2.listed.body.gates in
    let wires : c.in-Some-2.listed.body.wires ≡ s.body.wires = h.0 ∙ c.wires.ensures.wires in
    let fine : All (IsFine s.body.wires) gates = subst (λ n. All (IsFine n) gates) wires c.facts-2.ensures.fine in
    let held : Held = record { body = c.replace.result; turn = s.turn; goal = c.in_ok-goal.goal } in
    let none : c.args.held.now ≡ None = none-held c.args.held.now (sym c.is_some.ensures ∙ c.if-is_some.false) in
    subst (λ o. LeadsOn kind.Goal o s (Some held) (record { body = c.replace.new.dest; turn = 0 }) given behind) (sym none)
    (subst (λ b. LeadsOn kind.Goal None s (Some held) (record { body = b; turn = 0 }) given behind) (sym (c.replace.ensures.after ∙ c.link.ensures.same))
    (goal-turns ks c.in-Some.count s (record { body = c.in-Some-2.listed.body; turn = 0 }) held lines behind small count c.facts.ensures.wires_limit fine h.1.0 h.1.1 (λ i. (c.replace.ensures.value i).gates) refl
    (λ i. (c.in_ok-goal.ensures.ok i).gates) refl))
