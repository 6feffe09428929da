-- All parts but the last.
use Rattle.std.proofs.Common.{◌≡◌, ◌-◌, ◌∙◌, ap, arith, length, map, take}
use Rattle.circuit_target.proofs.PartLaws.{lasts-taken}
use Rattle.circuit_target.proofs.parts.between.Goals as goal

pub returns : goal.returns
returns c =
    let all : c.parts.place ≡ length c.args.made.now - 1 = omega (arith, c.parts-test.false, c.parts.auto.place-end, c.saturating_sub-place-end.ensures) in
    c.parts.invariant ∙ ap (λ k. map (λ m. m.last) (take k c.args.made.now)) all ∙ lasts-taken c.args.made.now
