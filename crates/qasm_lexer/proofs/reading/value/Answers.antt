use Rattle.std.proofs.Common.{◌≡◌, ◌∙◌, sym, ap, Ok}
use Rattle.std.specs.Result.{is_ok}
use Rattle.angle_fraction.specs.Fraction.{lowest}
use Rattle.qasm_lexer.specs.Numbers.{decimal}
use Rattle.qasm_lexer.specs.Tokens.{bytes_of}
use Rattle.qasm_lexer.proofs.ValueLaws.{kept_value}
use Rattle.qasm_lexer.proofs.reading.value.Goals as goal

pub unwrap-requires : goal.unwrap-requires
unwrap-requires c = ap is_ok (c.number.ensures.value ∙ kept_value (decimal (bytes_of c.args.text.now c.args.token.now)) c.requires.number.value)

pub returns : goal.returns
returns c = record {
  value =
      let same : Ok c.unwrap.result ≡ Ok (lowest (decimal (bytes_of c.args.text.now c.args.token.now))) =
      sym c.unwrap.ensures ∙ c.number.ensures.value ∙ kept_value (decimal (bytes_of c.args.text.now c.args.token.now)) c.requires.number.value in
      cc;
}
