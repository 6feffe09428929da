use Rattle.std.proofs.Common.{◌∙◌, ◌==◌, ◌&&◌, cond, sym, ap, Some}
use Rattle.circuit_list.specs.Marks.{is_marked}
use Rattle.circuit_list.specs.Tree.{meets, wire_bit}
use Rattle.circuit_list.proofs.MarkLaws.{put-one, put-two}
use Rattle.circuit_list.proofs.marks.put_gate.Goals as goal

pub returns-in-Cx-clause-marks : goal.returns-in-Cx-clause-marks
returns-in-Cx-clause-marks c w s =
    put-two w s c.args.slot c.in-Cx.c c.in-Cx.t c.args.on (is_marked w c.args.marks.now.items s) (is_marked w c.put_mark.new.marks.items s) (is_marked w c.put_mark-in-Cx.new.marks.items s)
    (c.put_mark.ensures.marks w s) (c.put_mark-in-Cx.ensures.marks w s)
    ∙ ap (λ g. cond ((s == c.args.slot) && meets (wire_bit w) (Some g)) c.args.on (is_marked w c.args.marks.now.items s)) (sym c.in-Cx.is)

pub returns-in-H-clause-marks : goal.returns-in-H-clause-marks
returns-in-H-clause-marks c w s =
    put-one w s c.args.slot c.in-H.q c.args.on (is_marked w c.args.marks.now.items s) (is_marked w c.put_mark-in-H.new.marks.items s) c.args.gate c.in-H.is (c.put_mark-in-H.ensures.marks w s)
