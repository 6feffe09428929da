use Rattle.std.proofs.Common.{sym, arith, drop, length-drop}
use Rattle.std.proofs.lemmas.List.Sums.{count_by-le-length}
use Rattle.circuit_list.specs.Gates.{is_on}
use Rattle.circuit_list.specs.Slots.{place_of}
use Rattle.circuit_tests.proofs.UseLaws.{count_end, count_here, count_next}
use Rattle.circuit_tests.proofs.walk_tests.gates_on.Goals as goal

pub walk-init : goal.walk-init
walk-init c = record {
  live = c.requires.live;
  on = c.requires.on;
  counted = sym (count_here c.args.wire (place_of c.args.start c.args.circuit.now.slots) c.args.circuit.now.gates c.requires.on);
}

pub overflow_add-count : goal.overflow_add-count
overflow_add-count c =
    let gs = c.args.circuit.now.gates in
    let i = place_of c.walk.slot c.args.circuit.now.slots in
    let j = place_of c.in-Some.next c.args.circuit.now.slots in
    let found = c.in-Some.ensures.found in
    let next = count_next c.args.wire i j gs found.1.behind found.1.none found.1.on in
    let all = c.walk.invariant.counted in
    let few = count_by-le-length (is_on c.args.wire) (drop (place_of c.args.start c.args.circuit.now.slots) gs) in
    let fewer = length-drop (place_of c.args.start c.args.circuit.now.slots) gs in
    omega (arith, c.len-gates.ensures.value)

pub walk-preserved : goal.walk-preserved
walk-preserved c =
    let gs = c.args.circuit.now.gates in
    let i = place_of c.walk.slot c.args.circuit.now.slots in
    let j = place_of c.in-Some.next c.args.circuit.now.slots in
    let found = c.in-Some.ensures.found in
    let next = count_next c.args.wire i j gs found.1.behind found.1.none found.1.on in
    let all = c.walk.invariant.counted in
    record { live = found.0; on = found.1.on; counted = omega arith }

pub returns : goal.returns
returns c =
    let end = count_end c.args.wire (place_of c.walk.slot c.args.circuit.now.slots) c.args.circuit.now.gates c.in_default.ensures.found in
    let all = c.walk.invariant.counted in
    omega arith
