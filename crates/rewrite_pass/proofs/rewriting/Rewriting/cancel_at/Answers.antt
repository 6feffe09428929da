use Rattle.std.proofs.Common.{refl, sym, subst, ◌∙◌}
use Rattle.std.specs.List.{remove}
use Rattle.circuit_list.specs.Slots.{place_of}
use Rattle.commute_rules.specs.declared.Cancel.TheVariants as cancelling
use Rattle.commute_rules.specs.Reducible.{IsReducible}
use Rattle.rewrite_pass.specs.Derivations.{Derivation, CancelsTo, IsStepped}
use Rattle.rewrite_pass.specs.Traces.{Step, Both}
use Rattle.rewrite_pass.specs.contracts.rewriting.Rewriting.{the_view}
use Rattle.rewrite_pass.proofs.DerivationLaws.{derivation_stepped}
use Rattle.rewrite_pass.proofs.TraceLaws.{both_made}
use Rattle.rewrite_pass.proofs.rewriting.Rewriting.cancel_at.Goals as goal

abbrev before : (c : goal.After-self-1) → Derivation
before c = the_view c.self.inside

abbrev after : (c : goal.After-self-1) → Derivation
after c = the_view (record { body = c.remove_at-2.new.self; turn = c.turn_sum-self-inside.result; log = c.push_pair.new.self; source = c.self.inside.source })

abbrev step : goal.After-self-1 → Derivation → Step
step c d = Both (place_of c.args.first d.body.slots) (place_of c.args.second d.body.slots)

stepped : (c : goal.After-self-1) → IsStepped (step c (before c)) c.args.turn (before c) (after c)
stepped c =
    let pair = subst (λ (a : Derivation). IsReducible a.body.gates (place_of c.args.first a.body.slots) (place_of c.args.second a.body.slots)) (sym c.self.view_is) c.requires.pair in
    let outcome = subst (λ (a : Derivation). CancelsTo a.body.gates (place_of c.args.first a.body.slots) (place_of c.args.second a.body.slots) (cancelling.Both c.args.turn)) (sym c.self.view_is) c.requires.outcome in
    record {
      continued = record { source = refl; wires = c.remove_at-2.ensures.wires ∙ c.remove_at.ensures.wires; told = c.push_pair.ensures.told };
      step = record {
        pair = pair;
        cancel = outcome pair.first pair.second pair.at_first pair.at_second;
        gates = c.remove_at-2.ensures.gates ∙ (λ k. remove (c.remove_at.ensures.gates k) (c.remove_at.ensures.earlier c.args.first pair.before k));
      };
      turn = c.turn_sum-self-inside.ensures.sum;
      steps = c.in_ok-push_pair.ensures.pushed;
    }

pub invariant_of-self-2 : goal.invariant_of-self-2
invariant_of-self-2 c =
    let x = before c in
    let y = after c in
    let st = stepped c in
    let made = both_made x.body.wires (place_of c.args.first x.body.slots) (place_of c.args.second x.body.slots) x.body.gates y.body.gates c.args.turn c.facts.ensures.fine st.step in
    derivation_stepped x y (step c x) c.args.turn c.self.invariant made.law st

pub returns-clause-ok : goal.returns-clause-ok
returns-clause-ok c = subst (λ (a : Derivation). IsStepped (step c a) c.args.turn a (after c)) c.self.view_is (stepped c)
