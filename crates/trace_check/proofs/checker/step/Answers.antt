use Rattle.std.proofs.Common.{ap, refl}
use Rattle.rewrite_pass.specs.Traces.{Both, Join, Rule}
use Rattle.trace_check.specs.Progress.{step_named}
use Rattle.trace_check.proofs.StepLaws.{step-found}
use Rattle.trace_check.proofs.checker.step.Goals as goal

pub returns-in-Rule-clause-step : goal.returns-in-Rule-clause-step
returns-in-Rule-clause-step c =
    step-found c.args.word c.args.first c.args.second c.args.body.now.wires c.args.body.now.gates c.rule.new.body.gates (Rule c.args.first c.args.second) c.rule.result (ap (λ w. step_named w c.args.first c.args.second) c.in-Rule.is) c.rule.ensures.applies

pub returns-in-Both-clause-step : goal.returns-in-Both-clause-step
returns-in-Both-clause-step c =
    step-found c.args.word c.args.first c.args.second c.args.body.now.wires c.args.body.now.gates c.both.new.body.gates (Both c.args.first c.args.second) c.both.result (ap (λ w. step_named w c.args.first c.args.second) c.in-Both.is) c.both.ensures.applies

pub returns-then-join-clause-step : goal.returns-then-join-clause-step
returns-then-join-clause-step c = (Join c.args.first c.args.second, (ap (λ w. step_named w c.args.first c.args.second) c.in-Join.is, c.if-join.ensures.applies refl))

pub returns-in-Rule-clause-known : goal.returns-in-Rule-clause-known
returns-in-Rule-clause-known c = c.forget.ensures c.rule.new.body
