use Rattle.std.proofs.Common.{Option, MatchOption, sym, subst}
use Rattle.rewrite_pass.specs.Edits.{changed}
use Rattle.rewrite_pass.specs.Traces.{IsRuleStep}
use Rattle.rewrite_pass.specs.Windows.{IsWindow}
use Rattle.hadamard_reduce.specs.declared.window.Window.{Window}
use Rattle.hadamard_reduce.specs.Found.{IsFound}
use Rattle.hadamard_reduce.proofs.FoundLaws.{step_found}
use Rattle.hadamard_reduce.proofs.HadamardRulesNumberedRule.number.Goals as goal

-- windows at one place are of one rule, so the step is that of the window found
pub returns : goal.returns
returns c =
    let gs = c.args.body.now.gates in
    let i = c.args.place in
    let w = c.unwrap-window.result in
    let found = subst (λ (o : Option Window). MatchOption o (IsWindow gs i → ⊥) (IsFound gs i)) c.unwrap-window.ensures
    (subst (λ n. MatchOption c.window_at.result (IsWindow gs n → ⊥) (IsFound gs n)) c.slot.ensures.place c.window_at.ensures.found) in
    record {
      number = λ d made. subst (λ k. IsRuleStep k i gs (changed d gs) d.turn) (sym c.number_of.ensures.value) (step_found gs (changed d gs) i d.turn made.0 w found made.1);
    }
