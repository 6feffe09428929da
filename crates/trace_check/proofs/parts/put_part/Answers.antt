use Rattle.std.proofs.Common.{◌∙◌, arith, sym}
use Rattle.std.proofs.lemmas.Result.{on_ok_weaker}
use Rattle.trace_check.proofs.PartStepLaws.{cut-put, cut-within}
use Rattle.trace_check.proofs.parts.put_part.Goals as goal

pub insert-requires : goal.insert-requires
insert-requires c = record {
  within = omega (arith, c.requires.ordered, c.requires.within, cut-within c.args.body.now.gates c.cut.new.body.gates c.args.first c.args.end c.requires.ordered c.requires.within c.cut.ensures.gates);
  wires = c.requires.wires ∙ sym c.cut.ensures.wires;
}

pub returns-clause-gates : goal.returns-clause-gates
returns-clause-gates c =
    on_ok_weaker c.insert.result (λ e. e ∙ cut-put c.args.body.now.gates c.args.gates.now.gates c.cut.new.body.gates c.args.first c.args.end c.requires.ordered c.requires.within c.cut.ensures.gates) c.insert.ensures.gates
