use Rattle.std.proofs.Common.{◌≡◌, ◌<◌, ◌/◌, ℕ, length, slice_index}
use Rattle.matroid_partition.proofs.dealt.shares.Given as goal

abbrev pub invariant-indices : goal.invariant-indices
invariant-indices l = record {
  long : length l.shares.items ≡ l.index;
  each : (j : ℕ) → j < l.index → slice_index l.shares.items j ≡ j / l.spares;
}
