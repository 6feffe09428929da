use Rattle.std.proofs.Common.{◌≡◌, arith, sym, ◌∙◌}
use Rattle.trace_check.proofs.NumberLaws.{digits-parsed}
use Rattle.trace_check.proofs.numbers.number.Goals as goal

pub returns-in-Ok-parse-clause-some : goal.returns-in-Ok-parse-clause-some
returns-in-Ok-parse-clause-some c =
    let same : c.in-Ok.text.now ≡ c.args.bytes.now = c.in-Ok.ensures.cases.0 in
    sym same ∙ digits-parsed c.in-Ok-parse.number c.in-Ok.text.now c.parse.result (grind arith) c.parse.ensures.value.0 (grind arith) (grind arith)
