use Rattle.std.proofs.Common.{◌≡◌, ℕ, suc, ◌<◌, ◌≤◌, ◌-◌, true, false, length, get_or}
use Rattle.gf2_linear.specs.Rows.{is_sum}
use Rattle.matroid_partition.specs.declared.blocks.Block.{Block}
use Rattle.matroid_partition.proofs.blocks.first_fit.Given as goal

abbrev pub invariant-halves : goal.invariant-halves
invariant-halves l = record {
  order : l.low ≤ l.high;
  within : l.high ≤ length l.unfilled;
  before : (j : ℕ) (d : Block) → suc j ≡ l.low → is_sum (get_or l.blocks (get_or l.unfilled j 0) d).basis l.row ≡ true;
  room : (d : Block) → l.high < length l.unfilled → is_sum (get_or l.blocks (get_or l.unfilled l.high 0) d).basis l.row ≡ false;
}

abbrev pub decreases-halves : goal.decreases-halves
decreases-halves l = l.high - l.low
