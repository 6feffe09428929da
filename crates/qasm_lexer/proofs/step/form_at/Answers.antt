use Rattle.std.proofs.Common.{◌<◌, ◌∙◌, sym, arith, length, length-drop, ap}
use Rattle.qasm_lexer.proofs.TokenLaws.{bad_at, blank_at, number_at, token_there}
use Rattle.qasm_lexer.proofs.step.form_at.Goals as goal

pub returns-then-len-eq0 : goal.returns-then-len-eq0
returns-then-len-eq0 c = record { lexeme = bad_at c.args.text.now c.after-rest.result.now c.args.place c.lexeme_len-len.result c.after-rest.ensures.value c.requires.within c.lexeme_len-len.ensures.value c.if-len-eq0.true }

pub returns-then-is_blank : goal.returns-then-is_blank
returns-then-is_blank c = record {
  lexeme =
      let long = ap length c.after-rest.ensures.value ∙ length-drop c.args.place c.args.text.now in
      let some : 0 < c.lexeme_len-len.result = omega arith in (
        omega arith,
        omega arith,
        blank_at c.args.text.now c.after-rest.result.now c.front-lexeme.result.now c.args.place c.lexeme_len-len.result
            c.after-rest.ensures.value c.lexeme_len-len.ensures.value some c.front-lexeme.ensures.value (sym c.is_blank.ensures.value ∙ c.if-is_blank.true),
      );
}

pub returns-then-is_out_of_range : goal.returns-then-is_out_of_range
returns-then-is_out_of_range c = record {
  lexeme =
      let some : 0 < c.lexeme_len-len.result = omega arith in
      number_at c.args.text.now c.after-rest.result.now c.front-lexeme.result.now c.args.place c.lexeme_len-len.result
      c.after-rest.ensures.value c.lexeme_len-len.ensures.value some c.front-lexeme.ensures.value (sym c.is_blank.ensures.value ∙ c.if-is_blank.false)
      (sym c.is_out_of_range.ensures ∙ c.if-is_out_of_range.true);
}

pub returns : goal.returns
returns c = record {
  lexeme =
      let long = ap length c.after-rest.ensures.value ∙ length-drop c.args.place c.args.text.now in
      let some : 0 < c.lexeme_len-len.result = omega arith in (
        omega arith,
        omega arith,
        token_there c.args.text.now c.after-rest.result.now c.front-lexeme.result.now c.args.place c.lexeme_len-len.result c.kind_of.result
            c.after-rest.ensures.value c.lexeme_len-len.ensures.value some c.front-lexeme.ensures.value c.lexeme_len-len.ensures.bound
            (sym c.is_blank.ensures.value ∙ c.if-is_blank.false) (sym c.is_out_of_range.ensures ∙ c.if-is_out_of_range.false) c.kind_of.ensures.value,
      );
}
