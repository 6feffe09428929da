use Rattle.std.proofs.Common.{◌∙◌, ap, List}
use Rattle.std.specs.List.{remove}
use Rattle.circuit_list.specs.declared.Gate.{Gate}
use Rattle.commute_rules.specs.declared.Cancel.TheVariants.{Both}
use Rattle.rewrite_steps.specs.Pairs.{Reduces}
use Rattle.rewrite_steps.proofs.KnownLaws.{AreSpans-remove}
use Rattle.rewrite_steps.proofs.pairs.both.Goals as goal

pub returns-in-Both-clause-applies : goal.returns-in-Both-clause-applies
returns-in-Both-clause-applies c =
    let pair : Reduces c.args.body.now.gates c.args.first c.args.second (Both c.in-Both.turn) = c.in-Both.ensures.pair in
    record {
      pair = pair.0;
      cancel = pair.1;
      gates = c.remove-in-Both.ensures.gates ∙ ap (λ (gs : List Gate). remove gs c.args.first) c.remove.ensures.gates;
    }

pub returns-in-Both-clause-known : goal.returns-in-Both-clause-known
returns-in-Both-clause-known c =
    AreSpans-remove _ _ _ _ c.args.first _ c.remove-in-Both.ensures.gates c.remove-in-Both.ensures.slots
    (AreSpans-remove _ _ _ _ c.args.second _ c.remove.ensures.gates c.remove.ensures.slots c.in-Both.ensures.known)
