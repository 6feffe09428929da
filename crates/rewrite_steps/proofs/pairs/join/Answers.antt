use Rattle.std.proofs.Common.{◌≡◌, ◌∙◌, ap, refl, List, set}
use Rattle.std.specs.List.{remove}
use Rattle.circuit_list.specs.declared.Gate.{Gate}
use Rattle.commute_rules.specs.Cancels.{with_phase}
use Rattle.rewrite_steps.proofs.KnownLaws.{AreSpans-remove, AreSpans-set}
use Rattle.rewrite_steps.proofs.pairs.join.Goals as goal

pub returns-in-Merge-clause-applies : goal.returns-in-Merge-clause-applies
returns-in-Merge-clause-applies c = λ applies.
    let gs = c.args.body.now.gates in
    let p = c.in-Merge.ensures.pair.0 in
    let here : c.gate.result ≡ p.first = cc (c.gate.ensures.there, p.at_first) in
    let phase = c.with_phase-gate.ensures ∙ ap (with_phase c.in-Merge.k) here in
    record {
      pair = p;
      k = c.in-Merge.k;
      merge = c.in-Merge.ensures.pair.1;
      gates = c.remove.ensures.gates ∙ ap (λ (xs : List Gate). remove xs c.args.second) (c.replace.ensures.gates ∙ ap (set gs c.args.first) phase);
      turn = refl;
    }

pub returns-in-Merge-clause-known : goal.returns-in-Merge-clause-known
returns-in-Merge-clause-known c =
    AreSpans-remove _ _ _ _ c.args.second _ c.remove.ensures.gates c.remove.ensures.slots
    (AreSpans-set _ _ _ _ c.args.first c.in-Merge.k c.gate.result _ _ c.gate.ensures.there c.with_phase-gate.ensures c.replace.ensures.gates c.replace.ensures.slots c.in-Merge.ensures.known)
