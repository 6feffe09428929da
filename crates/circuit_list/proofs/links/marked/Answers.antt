use Rattle.std.proofs.Common.{◌≡◌, arith, length}
use Rattle.circuit_list.proofs.MarkLaws.{to-end, to-none}
use Rattle.circuit_list.proofs.links.marked.Goals as goal

pub slots-init : goal.slots-init
slots-init c = to-none c.args.gates.now c.new-marks.result.items c.new-marks.ensures.items

pub returns : goal.returns
returns c =
    let all : c.slots.slot ≡ length c.args.gates.now = omega (arith, c.slots.auto) in
    to-end c.slots.slot c.args.gates.now c.slots.marks.items all c.slots.invariant
