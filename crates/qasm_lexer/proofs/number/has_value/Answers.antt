use Rattle.std.proofs.Common.{◌∙◌, ap, sym}
use Rattle.std.specs.Result.{is_ok}
use Rattle.angle_fraction.specs.Fraction.{Fraction, is_small, lowest}
use Rattle.qasm_lexer.specs.Numbers.{decimal}
use Rattle.qasm_lexer.proofs.ScaledLaws.{short_value}
use Rattle.qasm_lexer.proofs.ValueLaws.{laws, ok_fitted}
use Rattle.qasm_lexer.proofs.number.has_value.Goals as goal

pub returns-in-Some : goal.returns-in-Some
returns-in-Some c = record {
  value =
      sym (short_value (laws c.lowest_terms.ensures.reduced c.lowest_terms.ensures.same) _ _ c.in-Some.ensures.short)
      ∙ ap (λ (x : Fraction). is_small (lowest x)) c.in-Some.ensures.value;
}

pub returns-in-None : goal.returns-in-None
returns-in-None c = record { value = c.is_ok.ensures.value ∙ ap is_ok c.long_number.ensures ∙ ok_fitted (decimal c.args.text.now) }
