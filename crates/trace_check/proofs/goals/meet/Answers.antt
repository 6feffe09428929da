use Rattle.std.proofs.Common.{◌≡◌, ◌∙◌, ◌+◌, ◌-◌, ◌%◌, ◌<◌, ℕ, List, [], ◌∷◌, Some, ap, arith, length, subst, sym}
use Rattle.std.specs.Prelude.{codes}
use Rattle.circuit_list.specs.declared.Passed.{Passed}
use Rattle.rewrite_pass.specs.TraceLines.{words}
use Rattle.trace_check.specs.Progress.{LeadsOn}
use Rattle.trace_check.specs.declared.goals.Held.{Held}
use Rattle.trace_model.specs.declared.word.Word.TheVariants as kind
use Rattle.trace_check.proofs.GoalLaws.{meet-turns, no_numbers, stands-meet}
use Rattle.trace_check.proofs.RoutedLaws.{numbers-small}
use Rattle.trace_check.proofs.WordLaws.{filled}
use Rattle.trace_check.proofs.goals.meet.Goals as goal

pub returns-then-not-is_empty-clause-not : goal.returns-then-not-is_empty-clause-not
returns-then-not-is_empty-clause-not c = λ y behind.
    let ks : List ℕ = c.args.numbers.now in
    let some : 0 < length ks = filled c.is_empty.result (length ks) c.is_empty.ensures c.if-not-is_empty.true in
    stands-meet c.args.held.now ks c.args.state.now behind (numbers-small ks c.type_inv.numbers) (λ h e is met. absurd (omega (arith, ap length is, some)))

pub returns-clause-met : goal.returns-clause-met
returns-clause-met c = λ y behind.
    let ks : List ℕ = c.args.numbers.now in
    let s : Passed = c.args.state.now in
    let old : Held = c.in-Some.old in
    let t : Passed = record { body = c.link.new.self; turn = c.turn_sum-state.result } in
    let held : c.args.held.now ≡ Some old = sym c.take.ensures.value ∙ c.in-Some.is in
    let empty : ks ≡ [] = no_numbers c.is_empty.result ks c.is_empty.ensures c.if-not-is_empty.false in
    let turn : c.turn_sum-state.result ≡ (old.turn + (8 - s.turn)) % 8 = omega (arith, c.turn_sum-state.ensures.sum) in
    subst (λ o. LeadsOn kind.Meet o s c.take.new.self t (words (codes "meet") ks ∷ behind) behind) (sym held)
    (subst (λ o. LeadsOn kind.Meet (Some old) s o t (words (codes "meet") ks ∷ behind) behind) (sym c.take.ensures.after)
    (meet-turns ks s t old behind empty (c.same_gates.ensures.yes c.if-not-same_gates.false) (λ i. (c.link.ensures.same i).gates) turn))
