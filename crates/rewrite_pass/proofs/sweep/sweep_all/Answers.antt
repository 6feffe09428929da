use Rattle.std.proofs.Common.{◌≤◌, subst, sym, arith, length}
use Rattle.circuit_list.specs.Body.{Body}
use Rattle.rewrite_pass.specs.declared.rule.Change.{Change}
use Rattle.rewrite_pass.specs.Edits.{changed}
use Rattle.rewrite_pass.specs.Traces.{IsRuleStep}
use Rattle.rewrite_pass.proofs.DerivationLaws.{continued_trans}
use Rattle.rewrite_pass.proofs.EditLaws.{changed_short}
use Rattle.rewrite_pass.proofs.sweep.sweep_all.Goals as goal

pub changes-preserved : goal.changes-preserved
changes-preserved g c =
    let first = c.args.circuit.now in
    let old = c.changes.circuit in
    let was = c.find.new.circuit in
    let new = c.apply.new.self in
    let found = c.in_ok-found.ensures.same in
    let short : length new.body.gates ≤ length was.body.gates = subst (λ gs. length gs ≤ length was.body.gates) (sym c.in_ok-apply.ensures.gates) (changed_short c.in-Some.found.change 0 was.body.gates) in
    let same : length was.body.gates ≤ length first.body.gates = subst (λ gs. length gs ≤ length first.body.gates) (sym found.gates) c.changes.invariant.shorter in
    record {
      continued = continued_trans first old new c.changes.invariant.continued (continued_trans old was new found.continued c.in_ok-apply.ensures.ok.continued);
      shorter = omega (arith, short, same);
    }

pub apply-requires-clause-rule : goal.apply-requires-clause-rule
apply-requires-clause-rule g c =
    let made = (rw c.in-Some.is at c.in_ok-found.ensures.made) in
    let k = c.number-number.result in
    let i = c.in-Some.found.place in
    subst (λ (b : Body). (d : Change) → g.R.Rule.made b.gates i d → IsRuleStep k i b.gates (changed d b.gates) d.turn) c.body-in-Some.ensures.value c.number-number.ensures.number c.in-Some.found.change made.1
