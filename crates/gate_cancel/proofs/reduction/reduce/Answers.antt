use Rattle.std.proofs.Common.{ℕ, subst}
use Rattle.circuit_list.specs.Body.{Body}
use Rattle.circuit_list.specs.Slots.{place_of}
use Rattle.commute_rules.specs.Reducible.{IsReducible}
use Rattle.gate_cancel.specs.Reaches.{IsReach}
use Rattle.gate_cancel.proofs.ReductionLaws.{gone_after, reduced_gone, reduction_now}
use Rattle.gate_cancel.proofs.reduction.reduce.Goals as goal

pub returns-in_default-clause-reduction : goal.returns-in_default-clause-reduction
returns-in_default-clause-reduction c =
    let none = rw c.in_default.is at c.search-found.ensures.partner in
    reduction_now c.partners.done c.args.circuit.now c.partners.circuit c.args.slot c.partners.invariant.so_far
    (subst (λ (b : Body). (j : ℕ) → IsReducible b.gates (place_of c.args.slot b.slots) j → ⊥) c.body.ensures.value none)

pub partners-preserved : goal.partners-preserved
partners-preserved c = record {
  live = c.in_ok-merge-in-Merge.ensures.live;
  reach = c.in_ok-merge-in-Merge.ensures.reach c.search-found.result.1
      (subst (λ (b : Body). IsReach b c.args.slot c.search-found.result.1) c.body.ensures.value c.search-found.ensures.reach);
  so_far = gone_after c.partners.done c.args.circuit.now c.partners.circuit c.merge.new.circuit c.partners.invariant.so_far c.in_ok-merge-in-Merge.ensures.reduced;
}

pub returns-in-Both-clause-reduction : goal.returns-in-Both-clause-reduction
returns-in-Both-clause-reduction c =
    gone_after c.partners.done c.args.circuit.now c.partners.circuit c.cancel_at.new.self c.partners.invariant.so_far (reduced_gone _ _ _ _ _ c.in_ok-cancel_at-in-Both.ensures.ok)
