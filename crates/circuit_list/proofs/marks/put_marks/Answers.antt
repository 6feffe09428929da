use Rattle.std.proofs.Common.{◌∙◌, ◌==◌, ◌&&◌, cond, sym, ap, Option}
use Rattle.circuit_list.specs.declared.Gate.{Gate}
use Rattle.circuit_list.specs.Marks.{is_marked}
use Rattle.circuit_list.specs.Tree.{meets, wire_bit}
use Rattle.circuit_list.proofs.MarkLaws.{put-none}
use Rattle.circuit_list.proofs.marks.put_marks.Goals as goal

pub returns-in_default-clause-marks : goal.returns-in_default-clause-marks
returns-in_default-clause-marks c w s =
    put-none w s c.args.slot c.args.on (is_marked w c.args.marks.now.items s)
    ∙ ap (λ (e : Option Gate). cond ((s == c.args.slot) && meets (wire_bit w) e) c.args.on (is_marked w c.args.marks.now.items s)) (sym c.in_default.is ∙ c.gate.ensures.value)
