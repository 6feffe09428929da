use Rattle.circuit_list.proofs.MarkLaws.{marked-put}
use Rattle.circuit_list.proofs.marks.put_mark.Goals as goal

pub returns-clause-marks : goal.returns-clause-marks
returns-clause-marks c =
    marked-put c.args.marks.now.items c.args.slot c.args.wire c.word_of-word.result c.index.result.now c.put_bit.result c.args.on c.requires c.word_of-word.ensures c.index.ensures c.put_bit.ensures
