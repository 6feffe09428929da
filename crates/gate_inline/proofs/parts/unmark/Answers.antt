-- One mark less.
use Rattle.std.proofs.Common.{◌<◌, get_or, length, sym, ◌∙◌, arith}
use Rattle.std.proofs.lemmas.Grind.{common_steps}
use Rattle.gate_inline.proofs.BarLaws.{marked-there, unmarked-end, unmarked-next}
use Rattle.gate_inline.proofs.parts.unmark.Goals as goal

pub bounds-marks-wire : goal.bounds-marks-wire
bounds-marks-wire c =
    let there : get_or c.args.list.now c.wires.wire-index 0 < length c.args.marks.now = marked-there c.args.marks.now c.args.list.now c.wires.wire-index c.requires (omega arith) in
    omega (arith, there, c.wires.auto.marks)

pub wires-init : goal.wires-init
wires-init c = λ x e. sym (c.requires x) ∙ e

pub wires-preserved : goal.wires-preserved
wires-preserved c =
    let there : get_or c.args.list.now c.wires.wire-index 0 < length c.args.marks.now = marked-there c.args.marks.now c.args.list.now c.wires.wire-index c.requires (omega arith) in
    unmarked-next c.wires.marks c.args.list.now c.wires.wire-index (omega arith) (omega (arith, there, c.wires.auto.marks)) c.wires.invariant

pub returns : goal.returns
returns c = unmarked-end c.wires.marks _ (grind (arith, common_steps)) c.wires.invariant
