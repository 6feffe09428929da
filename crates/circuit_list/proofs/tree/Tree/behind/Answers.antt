use Rattle.std.proofs.Common.{◌∙◌, sym, arith}
use Rattle.circuit_list.proofs.EntryLaws.{rank-zero}
use Rattle.circuit_list.proofs.InsertLaws.{next_slot}
use Rattle.circuit_list.proofs.tree.Tree.behind.Goals as goal

pub returns-then-place-eq0-clause-value : goal.returns-then-place-eq0-clause-value
returns-then-place-eq0-clause-value c = rank-zero c.args.self.now ∙ sym c.if-place-eq0.true

pub returns-clause-value : goal.returns-clause-value
returns-clause-value c =
    let next = next_slot c.args.self.now c.select.result c.select.ensures.live in
    omega (arith, next.0, c.select.ensures.rank, c.if-place-eq0.false)
