use Rattle.std.proofs.Common.{refl, sym, subst}
use Rattle.rewrite_pass.specs.Derivations.{Derivation, IsStepped}
use Rattle.rewrite_pass.specs.Edits.{changed}
use Rattle.rewrite_pass.specs.Traces.{Rule, IsRuleStep}
use Rattle.rewrite_pass.specs.contracts.rewriting.Rewriting.{the_view}
use Rattle.rewrite_pass.proofs.DerivationLaws.{derivation_stepped}
use Rattle.rewrite_pass.proofs.TraceLaws.{rule_made}
use Rattle.rewrite_pass.proofs.rewriting.Rewriting.apply.Goals as goal

abbrev before : (c : goal.After-self-1) → Derivation
before c = the_view c.self.inside

abbrev after : (c : goal.After-self-1) → Derivation
after c = the_view (record { body = c.make_change.new.body; turn = c.turn_sum-self-inside.result; log = c.push_rule.new.self; source = c.self.inside.source })

stepped : (c : goal.After-self-1) → IsStepped (Rule c.args.number c.args.place) c.args.change.now.turn (before c) (after c)
stepped c =
    let rule = subst (λ (a : Derivation). IsRuleStep c.args.number c.args.place a.body.gates (changed c.args.change.now a.body.gates) c.args.change.now.turn) (sym c.self.view_is) c.requires.rule in
    record {
      continued = record { source = refl; wires = c.make_change.ensures.wires; told = c.push_rule.ensures.told };
      step = subst (λ gs. IsRuleStep c.args.number c.args.place c.self.inside.body.gates gs c.args.change.now.turn) (sym c.make_change.ensures.gates) rule;
      turn = c.turn_sum-self-inside.ensures.sum;
      steps = c.in_ok-push_rule.ensures.pushed;
    }

pub invariant_of-self-2 : goal.invariant_of-self-2
invariant_of-self-2 c =
    let x = before c in
    let y = after c in
    let st = stepped c in
    let made = rule_made x.body.wires c.args.number c.args.place x.body.gates y.body.gates c.args.change.now.turn c.facts.ensures.fine st.step in
    derivation_stepped x y (Rule c.args.number c.args.place) c.args.change.now.turn c.self.invariant made.law st

pub returns-clause-ok : goal.returns-clause-ok
returns-clause-ok c = subst (λ (a : Derivation). IsStepped (Rule c.args.number c.args.place) c.args.change.now.turn a (after c)) c.self.view_is (stepped c)
