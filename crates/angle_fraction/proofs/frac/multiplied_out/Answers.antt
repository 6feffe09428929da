use Rattle.std.proofs.Common.{ap, sym, ◌∙◌, Ok, arith, ◌+◌}
use Rattle.std.proofs.lemmas.Result.{err_from_is_err_and}
use Rattle.angle_fraction.proofs.PowerLaws.{power_past, raised-more, raised-zero}
use Rattle.angle_fraction.proofs.frac.multiplied_out.Goals as goal

pub loop-turn-init : goal.loop-turn-init
loop-turn-init c = raised-zero _ c.requires ∙ ap Ok (sym c.unit-power.ensures.value)

pub returns-in_err-power : goal.returns-in_err-power
returns-in_err-power c =
    let more = raised-more c.args.a.now c.loop-turn.power c.loop-turn._turn c.requires c.loop-turn.invariant in
    let none = power_past c.args.a.now (c.loop-turn._turn + 1) c.args.exponent c.in_err-power.field-0.0 c.requires (omega arith)
    (sym more ∙ sym c.product.ensures.value ∙ c.in_err-power.was) in
    let p = err_from_is_err_and c.from_residual.result c.from_residual.ensures.1 in
    rw (p.1, p.2) (sym none)

pub loop-turn-preserved : goal.loop-turn-preserved
loop-turn-preserved c =
    let more = raised-more c.args.a.now c.loop-turn.power c.loop-turn._turn c.requires c.loop-turn.invariant in
    sym more ∙ sym c.product.ensures.value ∙ c.in_ok-power.was
