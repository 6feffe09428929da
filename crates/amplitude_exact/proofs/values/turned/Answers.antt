use Rattle.std.proofs.Common.{◌≡◌, ◌+◌, ◌-◌, ◌^◌, ◌%◌, ◌∙◌, arith}
use Rattle.amplitude_exact.specs.Values.{ring_of}
use Rattle.amplitude_exact.proofs.SizeLaws.{minus_within}
use Rattle.amplitude_exact.proofs.RowLaws.{turn_rest, turn_half}
use Rattle.amplitude_exact.proofs.values.turned.Goals as goal

pub turned_below_4-requires-else-k-lt4-clause-small : goal.turned_below_4-requires-else-k-lt4-clause-small
turned_below_4-requires-else-k-lt4-clause-small c = minus_within (2 ^ 125) (ring_of c.args.v) (ring_of c.negated.result) c.requires.small c.negated.ensures.negated

pub returns-then-k-lt4 : goal.returns-then-k-lt4
returns-then-k-lt4 c = record { turned = c.turned_below_4.ensures.turned ∙ turn_rest c.args.k (ring_of c.args.v) }

pub returns-else-k-lt4 : goal.returns-else-k-lt4
returns-else-k-lt4 c =
    let e : c.args.k % 8 ≡ (c.args.k % 8 - 4) + 4 = omega arith in
    record {
      turned = turn_half c.args.k (c.args.k % 8 - 4) (ring_of c.args.v) (ring_of c.negated.result) (ring_of c.turned_below_4-else-k-lt4.result) e c.negated.ensures.negated c.turned_below_4-else-k-lt4.ensures.turned;
    }
