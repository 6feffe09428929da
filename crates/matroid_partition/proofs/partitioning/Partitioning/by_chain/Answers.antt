use Rattle.std.proofs.Common.{List, length, subst, sym, arith}
use Rattle.matroid_partition.specs.declared.search.Node.{Node}
use Rattle.matroid_partition.specs.Arrangements.{rows_with}
use Rattle.matroid_partition.specs.Searches.{IsChainOf}
use Rattle.matroid_partition.proofs.ArrangementLaws.{state-with}
use Rattle.matroid_partition.proofs.ClosedLaws.{closed-front}
use Rattle.matroid_partition.proofs.partitioning.Partitioning.by_chain.Goals as goal

pub enter-requires-clause-chain : goal.enter-requires-clause-chain
enter-requires-clause-chain c =
    let chain = rw c.in-Some.is at c.in_ok-chain.ensures.some in
    subst (λ (q : List Node). IsChainOf c.args.self.now c.args.row.now q c.in-Some.chain) (sym c.deref.ensures.value) chain

pub returns-in-None-clause-closed : goal.returns-in-None-clause-closed
returns-in-None-clause-closed c =
    let front = rw c.in-None.is at c.in_ok-chain.ensures.none in
    let nodes : List Node = c.search.new.front.nodes.items in
    closed-front (rows_with c.args.self.now c.args.row.now) c.args.self.now.homes c.args.self.now.blocks nodes c.search.new.front.seen.items (length nodes) 0
    (state-with c.args.self.now c.args.row.now c.facts.ensures.arranged) front (omega arith)
