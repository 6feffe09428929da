use Rattle.std.proofs.Common.{arith, is_ok}
use Rattle.circuit_list.proofs.MarkLaws.{marked-longer, more_words}
use Rattle.circuit_list.proofs.marks.make_marks.Goals as goal

pub returns-clause-same : goal.returns-clause-same
returns-clause-same c =
    marked-longer c.args.marks.now.items c.resize.new.self.items
    (more_words c.args.marks.now.items c.resize.new.self.items _ _ (is_ok c.resize.result) (omega (arith, c.len.ensures, c.if-end-len.false)) c.resize.ensures.items)
