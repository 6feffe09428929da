use Rattle.std.proofs.Common.{◌≡◌, ℕ, List, ◌∷◌, IfOk, MatchOption, rules, subst, sym}
use Rattle.rewrite_pass.specs.TraceLines.{words}
use Rattle.trace_text.specs.Texts.{lines_of}
use Rattle.trace_check.specs.Progress.{BlockedWith, LeadsOn}
use Rattle.trace_model.specs.Spelling.{spelling}
use Rattle.trace_check.specs.declared.mark.Mark.{Mark}
use Rattle.trace_model.specs.declared.word.Word.TheVariants as kind
use Rattle.trace_check.proofs.checker.moved.Goals as goal

pub returns-then-eq-clause-step : goal.returns-then-eq-clause-step
returns-then-eq-clause-step c =
    let ks : List ℕ = c.args.numbers.now.items in
    let lines : List (List ℕ) = lines_of c.args.mark.text.now in
    let word : c.args.word ≡ kind.Goal = search rules in
    subst (λ w. IfOk c.aim.result (λ o. MatchOption o (BlockedWith c.args.held.now c.args.state.now (words (spelling w) ks ∷ lines)) (λ (m : Mark). LeadsOn w c.args.held.now c.args.state.now c.aim.new.held c.aim.new.state (words (spelling w) ks ∷ lines) (lines_of m.text.now))))
    (sym word) c.aim.ensures.step

pub returns-then-eq-clause-known : goal.returns-then-eq-clause-known
returns-then-eq-clause-known c = c.forget.ensures c.aim.new.state.body

pub returns-in_err-meet-clause-known : goal.returns-in_err-meet-clause-known
returns-in_err-meet-clause-known c = c.forget-then-eq-2.ensures c.meet.new.state.body

pub returns-then-branch-clause-known : goal.returns-then-branch-clause-known
returns-then-branch-clause-known c = c.forget-then-eq-2.ensures c.meet.new.state.body

pub returns-else-branch-clause-known : goal.returns-else-branch-clause-known
returns-else-branch-clause-known c = c.forget-then-eq-2.ensures c.meet.new.state.body
