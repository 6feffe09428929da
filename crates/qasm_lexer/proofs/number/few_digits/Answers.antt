use Rattle.std.proofs.Common.{◌≡◌, ◌≤◌, ◌+◌, ◌^◌, ◌++◌, ◌∙◌, FitsSigned, ap, arith, length, lit<, pos, rules, unsigned_abs}
use Rattle.std.specs.Int.{w128}
use Rattle.std.proofs.lemmas.Int.{ints, to_z-of_z}
use Rattle.std.proofs.Math.Nat.{pow-le-pow_right}
use Rattle.angle_fraction.specs.Fraction.{fraction}
use Rattle.angle_fraction.specs.Angles.{fitted}
use Rattle.qasm_lexer.specs.Numbers.{number}
use Rattle.qasm_lexer.proofs.ScaledLaws.{all_digits, digits_short}
use Rattle.qasm_lexer.proofs.TailLaws.{ten_pow}
use Rattle.qasm_lexer.proofs.number.few_digits.Goals as goal

pub lowest-requires : goal.lowest-requires
lowest-requires c = record {
  positive =
      let some = ten_pow (length c.args.part.now) in
      let d_fits : FitsSigned w128 c.from-2.result = search rules in
      simp to_z-of_z (omega (arith, ints));
}

pub returns : goal.returns
returns c =
    let digits = c.args.whole.now ++ c.args.part.now in
    let n_fits : FitsSigned w128 c.from.result = search rules in
    let d_fits : FitsSigned w128 c.from-2.result = search rules in
    let all = all_digits c.args.whole.now c.args.part.now in
    let short = digits_short c.args.whole.now c.args.part.now in
    let top : 10 ^ (length c.args.whole.now + length c.args.part.now) ≤ 10 ^ 18 = pow-le-pow_right {n = 10} (lit< tt) c.requires in
    let is : c.head-num.result ≡ number digits = omega arith in
    let num : c.from.result ≡ pos (number digits) = c.from.ensures ∙ ap pos is in
    let den : unsigned_abs c.from-2.result ≡ 10 ^ length c.args.part.now = ap unsigned_abs c.from-2.ensures ∙ c.pow-den.ensures in
    let value = simp to_z-of_z at c.lowest.ensures.value in
    value ∙ (λ i. fitted (fraction (num i) (den i)))
