use Rattle.std.proofs.Common.{sym, subst, ap, ◌∙◌}
use Rattle.commute_rules.specs.Reducible.{NoReducible}
use Rattle.rewrite_pass.specs.Derivations.{Derivation}
use Rattle.gate_cancel.proofs.ReductionLaws.{IsCancelled_trans, reduced-cancelled}
use Rattle.gate_cancel.proofs.cancel_all.Goals as goal

pub returns-then-not-branch-clause-none : goal.returns-then-not-branch-clause-none
returns-then-not-branch-clause-none c =
    let none = c.in_ok-walk_all.ensures.none c.if-not-branch.true in
    subst NoReducible (sym (c.compact.ensures.same.gates ∙ ap (λ (a : Derivation). a.body.gates) c.unlink.ensures.same)) none.0

pub walks-preserved : goal.walks-preserved
walks-preserved c =
    let now = c.walks.circuit in
    let all = c.walk_all.new.circuit in
    let last = c.walk_queue.new.circuit in
    let more = c.in_ok-walk_all.ensures.changed c.if-not-branch.false in
    record {
      so_far = IsCancelled_trans c.args.circuit.now now last c.walks.invariant.so_far
          (IsCancelled_trans now all last (reduced-cancelled now all more) c.in_ok-walk_queue.ensures.cancelled);
    }
