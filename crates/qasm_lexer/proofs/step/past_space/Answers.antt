use Rattle.std.proofs.Common.{◌∙◌, arith, sym}
use Rattle.qasm_lexer.proofs.PlainLaws.{space-there}
use Rattle.qasm_lexer.proofs.step.past_space.Goals as goal

pub spaces-preserved : goal.spaces-preserved
spaces-preserved c =
    let further = c.spaces.invariant.further in
    record {
      same = space-there c.args.text.now c.spaces.at (omega arith) (sym c.is_space.ensures.value ∙ c.if-is_space.true) ∙ c.spaces.invariant.same;
      further = omega arith;
      within = omega arith;
    }
