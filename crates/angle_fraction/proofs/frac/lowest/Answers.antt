use Rattle.std.proofs.Common.{◌≤◌, ◌∙◌, ap, Ok, inl, inr, arith, rules, FitsSigned}
use Rattle.std.specs.Prelude.{unsigned_abs}
use Rattle.std.specs.Int.{w128}
use Rattle.std.proofs.lemmas.Int.{to_z-of_z}
use Rattle.angle_fraction.specs.Fraction.{most_part}
use Rattle.angle_fraction.proofs.LowestLaws.{fits, kept, past}
use Rattle.angle_fraction.proofs.frac.lowest.Goals as goal
use Rattle.angle_fraction.proofs.frac.lowest.Goals.{then-unsigned_abs-gt-MOST_PART-via-then-unsigned_abs-gt-MOST_PART, then-unsigned_abs-gt-MOST_PART-via-else-unsigned_abs-gt-MOST_PART+then-unsigned_abs-gt-MOST_PART-2}

pub returns-then-unsigned_abs-gt-MOST_PART : goal.returns-then-unsigned_abs-gt-MOST_PART
returns-then-unsigned_abs-gt-MOST_PART c = record {
  value =
      let n_fits : FitsSigned w128 c.args.num = c.ranges.num in
      let d_fits : FitsSigned w128 c.args.den = c.ranges.den in
      let f_fits : FitsSigned w128 c.common_factor-factor.result = search rules in
      let gcd = simp to_z-of_z at c.common_factor-factor.ensures.greatest in
      let num = simp to_z-of_z at c.divided-num.ensures in
      let den = simp to_z-of_z at c.divided-den.ensures in
      let num_fits : FitsSigned w128 c.divided-num.result = search rules in
      let den_fits : FitsSigned w128 c.divided-den.result = search rules in
      let first = simp to_z-of_z at c.unsigned_abs.ensures.value in
      elim c.then-unsigned_abs-gt-MOST_PART.branch [
        | then-unsigned_abs-gt-MOST_PART-via-then-unsigned_abs-gt-MOST_PART w ↦ past c.args.num c.args.den c.common_factor-factor.result c.divided-num.result c.divided-den.result c.requires.positive c.common_factor-factor.ensures.positive gcd num den (inl (omega arith))
        | then-unsigned_abs-gt-MOST_PART-via-else-unsigned_abs-gt-MOST_PART+then-unsigned_abs-gt-MOST_PART-2 w ↦
            let second = simp to_z-of_z at w.unsigned_abs-else-unsigned_abs-gt-MOST_PART.ensures.value in
            past c.args.num c.args.den c.common_factor-factor.result c.divided-num.result c.divided-den.result c.requires.positive c.common_factor-factor.ensures.positive gcd num den (inr (omega arith))
      ];
}

pub keep-requires : goal.keep-requires
keep-requires c =
    let n_fits : FitsSigned w128 c.args.num = c.ranges.num in
    let d_fits : FitsSigned w128 c.args.den = c.ranges.den in
    let f_fits : FitsSigned w128 c.common_factor-factor.result = search rules in
    let gcd = simp to_z-of_z at c.common_factor-factor.ensures.greatest in
    let num = simp to_z-of_z at c.divided-num.ensures in
    let den = simp to_z-of_z at c.divided-den.ensures in
    let num_fits : FitsSigned w128 c.divided-num.result = search rules in
    let den_fits : FitsSigned w128 c.divided-den.result = search rules in
    let first = simp to_z-of_z at c.unsigned_abs.ensures.value in
    let second = simp to_z-of_z at c.unsigned_abs-else-unsigned_abs-gt-MOST_PART.ensures.value in
    let small : unsigned_abs c.divided-num.result ≤ most_part = omega arith in
    let low : unsigned_abs c.divided-den.result ≤ most_part = omega arith in
    simp to_z-of_z (kept c.args.num c.args.den c.common_factor-factor.result c.divided-num.result c.divided-den.result c.requires.positive c.common_factor-factor.ensures.positive gcd num den small low)

pub returns : goal.returns
returns c = record {
  value =
      let n_fits : FitsSigned w128 c.args.num = c.ranges.num in
      let d_fits : FitsSigned w128 c.args.den = c.ranges.den in
      let f_fits : FitsSigned w128 c.common_factor-factor.result = search rules in
      let gcd = simp to_z-of_z at c.common_factor-factor.ensures.greatest in
      let num = simp to_z-of_z at c.divided-num.ensures in
      let den = simp to_z-of_z at c.divided-den.ensures in
      let num_fits : FitsSigned w128 c.divided-num.result = search rules in
      let den_fits : FitsSigned w128 c.divided-den.result = search rules in
      let first = simp to_z-of_z at c.unsigned_abs.ensures.value in
      let second = simp to_z-of_z at c.unsigned_abs-else-unsigned_abs-gt-MOST_PART.ensures.value in
      let small : unsigned_abs c.divided-num.result ≤ most_part = omega arith in
      let low : unsigned_abs c.divided-den.result ≤ most_part = omega arith in
      ap Ok c.keep.ensures ∙ simp to_z-of_z (fits c.args.num c.args.den c.common_factor-factor.result c.divided-num.result c.divided-den.result c.requires.positive c.common_factor-factor.ensures.positive gcd num den small low);
}
