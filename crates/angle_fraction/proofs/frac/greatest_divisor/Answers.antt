use Rattle.std.proofs.Common.{◌≡◌, ℕ, arith, subst, sym}
use Rattle.std.specs.Int.{IsGcd}
use Rattle.std.proofs.lemmas.Nat.Gcd.{IsGcd-swap}
use Rattle.angle_fraction.proofs.FactorLaws.{coprime-one}
use Rattle.angle_fraction.proofs.frac.greatest_divisor.Goals as goal

pub returns-then-b-eq1 : goal.returns-then-b-eq1
returns-then-b-eq1 c =
    let e : c.args.b ≡ 1 = omega arith in
    subst (λ (n : ℕ). IsGcd c.args.a n 1) (sym e) (IsGcd-swap 1 c.args.a 1 (coprime-one c.args.a))

pub returns-then-b-lt-LARGE : goal.returns-then-b-lt-LARGE
returns-then-b-lt-LARGE c =
    let same : c.from.result ≡ c.narrow_divisor.result = omega arith in
    subst (λ (g : ℕ). IsGcd c.args.a c.args.b g) (sym same) c.narrow_divisor.ensures
