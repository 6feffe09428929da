use Rattle.std.proofs.Common.{◌∙◌, arith, ap, length, length-drop}
use Rattle.qasm_lexer.proofs.PlainLaws.{plain-there}
use Rattle.qasm_lexer.proofs.step.lexeme_at.Goals as goal

pub returns : goal.returns
returns c = record {
  lexeme =
      let long = ap length c.after.ensures.value ∙ length-drop c.args.place c.args.text.now in
      let some = c.in-Some.ensures.plain.some in
      let within = c.in-Some.ensures.plain.within in (
        omega arith,
        omega arith,
        plain-there c.args.text.now c.after.result.now c.args.place c.in-Some.plain c.after.ensures.value c.in-Some.ensures.plain,
      );
}
