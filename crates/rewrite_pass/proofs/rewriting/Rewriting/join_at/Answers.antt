use Rattle.std.proofs.Common.{◌≡◌, ◌<◌, refl, sym, subst, ◌∙◌, ap, arith, set}
use Rattle.std.specs.List.{remove}
use Rattle.circuit_list.specs.Slots.{place_of}
use Rattle.commute_rules.specs.Cancels.{with_phase}
use Rattle.commute_rules.specs.declared.Cancel.TheVariants as cancelling
use Rattle.commute_rules.specs.Reducible.{IsReducible}
use Rattle.rewrite_pass.specs.Derivations.{Derivation, CancelsTo, IsStepped}
use Rattle.rewrite_pass.specs.Traces.{Step, Join}
use Rattle.rewrite_pass.specs.contracts.rewriting.Rewriting.{the_view}
use Rattle.rewrite_pass.proofs.DerivationLaws.{derivation_stepped}
use Rattle.rewrite_pass.proofs.TraceLaws.{join_made}
use Rattle.rewrite_pass.proofs.rewriting.Rewriting.join_at.Goals as goal

abbrev before : (c : goal.After-remove_at) → Derivation
before c = the_view c.self.inside

abbrev after : (c : goal.After-remove_at) → Derivation
after c = the_view (record { body = c.remove_at.new.self; turn = c.self.inside.turn; log = c.push_pair.new.self; source = c.self.inside.source })

abbrev step : goal.After-remove_at → Derivation → Step
step c d = Join (place_of c.args.first d.body.slots) (place_of c.args.second d.body.slots)

stepped : (c : goal.After-remove_at) → IsStepped (step c (before c)) 0 (before c) (after c)
stepped c =
    let b = c.self.inside.body in
    let pair = subst (λ (a : Derivation). IsReducible a.body.gates (place_of c.args.first a.body.slots) (place_of c.args.second a.body.slots)) (sym c.self.view_is) c.requires.pair in
    let outcome = subst (λ (a : Derivation). CancelsTo a.body.gates (place_of c.args.first a.body.slots) (place_of c.args.second a.body.slots) (cancelling.Merge c.args.k)) (sym c.self.view_is) c.requires.outcome in
    let written = c.replace_at.ensures.gates ∙ ap (set b.gates (place_of c.args.first b.slots)) c.with_phase-gate.ensures in
    let same : c.gate_at.result ≡ pair.first = (let e = pair.at_first in let f = c.gate_at.ensures.there in cc) in
    let low : c.self.inside.turn < 8 = c.self.invariant.law.below in
    record {
      continued = record { source = refl; wires = c.remove_at.ensures.wires ∙ c.replace_at.ensures.wires; told = c.push_pair.ensures.told };
      step = record {
        pair = pair;
        k = c.args.k;
        merge = outcome pair.first pair.second pair.at_first pair.at_second;
        gates = c.remove_at.ensures.gates ∙ (λ k. remove (written k) (place_of c.args.second (c.replace_at.ensures.slots k)))
            ∙ ap (λ z. remove (set b.gates (place_of c.args.first b.slots) (with_phase c.args.k z)) (place_of c.args.second b.slots)) same;
        turn = refl;
      };
      turn = omega (arith, low);
      steps = c.in_ok-push_pair.ensures.pushed;
    }

pub invariant_of-self-2 : goal.invariant_of-self-2
invariant_of-self-2 c =
    let x = before c in
    let y = after c in
    let st = stepped c in
    let made = join_made x.body.wires (place_of c.args.first x.body.slots) (place_of c.args.second x.body.slots) x.body.gates y.body.gates 0 c.facts.ensures.fine st.step in
    derivation_stepped x y (step c x) 0 c.self.invariant made.law st

pub returns-clause-ok : goal.returns-clause-ok
returns-clause-ok c = subst (λ (a : Derivation). IsStepped (step c a) 0 a (after c)) c.self.view_is (stepped c)
