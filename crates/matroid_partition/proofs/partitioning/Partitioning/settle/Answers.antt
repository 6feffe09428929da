use Rattle.std.proofs.Common.{◌∷◌, [], subst, sym}
use Rattle.matroid_partition.specs.Arrangements.{rows_with}
use Rattle.matroid_partition.specs.Searches.{IsChain}
use Rattle.matroid_partition.proofs.PartitioningLaws.{chain-root, full-reached}
use Rattle.matroid_partition.proofs.partitioning.Partitioning.settle.Goals as goal

pub enter-requires-clause-chain : goal.enter-requires-clause-chain
enter-requires-clause-chain c =
    subst (λ k. IsChain (rows_with c.args.self.now c.args.row.now) c.args.self.now.homes c.args.self.now.blocks (record { place = k; parent = 0 } ∷ []) 0 c.in-Some.into) (sym c.row_count.ensures.value)
    (chain-root c.args.self.now c.args.row.now c.in-Some.into c.facts.ensures.arranged c.in-Some.ensures.some)

pub returns-then-is_full-clause-closed : goal.returns-then-is_full-clause-closed
returns-then-is_full-clause-closed c = full-reached c.args.self.now c.args.row.now c.facts.ensures.arranged c.requires.spanned (c.is_full.ensures c.if-is_full.true)
