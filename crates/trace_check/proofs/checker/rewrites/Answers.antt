use Rattle.std.proofs.Common.{ℕ, List, inl, inr}
use Rattle.trace_check.proofs.RoutedLaws.{numbers-small}
use Rattle.trace_check.proofs.StepLaws.{blocked-step, no-change, no-numbers, step-leads}
use Rattle.trace_check.proofs.checker.rewrites.Goals as goal

pub returns-in_default-clause-not : goal.returns-in_default-clause-not
returns-in_default-clause-not c = λ n behind.
    let ks : List ℕ = c.args.numbers.now in
    blocked-step c.args.word ks c.args.state.now behind (numbers-small ks c.type_inv.numbers) (record { place = c.requires.place; goal = c.requires.goal; meet = c.requires.meet }) (λ e. c.requires.listing (inl e)) c.requires.part (λ e. c.requires.listing (inr e)) (no-numbers c.args.word ks c.args.state.now c.in_default.ensures.found)

pub returns-in-Some-step-clause-applies : goal.returns-in-Some-step-clause-applies
returns-in-Some-step-clause-applies c = λ y behind.
    let ks : List ℕ = c.args.numbers.now in
    let h = c.in-Some-step.ensures.step in
    step-leads c.args.word ks c.in-Some.first c.in-Some.second c.args.state.now (record { body = c.step.new.body; turn = c.turn_sum-state.result }) h.0 c.in-Some-step.turn behind (numbers-small ks c.type_inv.numbers)
    c.in-Some.ensures.found h.1.0 h.1.1 c.turn_sum-state.ensures.sum

pub returns-in-None-clause-not : goal.returns-in-None-clause-not
returns-in-None-clause-not c = λ n behind.
    let ks : List ℕ = c.args.numbers.now in
    blocked-step c.args.word ks c.args.state.now behind (numbers-small ks c.type_inv.numbers) (record { place = c.requires.place; goal = c.requires.goal; meet = c.requires.meet }) (λ e. c.requires.listing (inl e)) c.requires.part (λ e. c.requires.listing (inr e))
    (no-change c.args.word ks c.in-Some.first c.in-Some.second c.args.state.now c.in-Some.ensures.found c.in-None.ensures.step)
