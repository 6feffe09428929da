use Rattle.std.proofs.Common.{map, sym}
use Rattle.gate_library.specs.Operands.{wire_at as wire_there}
use Rattle.gate_inline.proofs.RenamingLaws.{get-map, inside, renamed-found, renamed-next}
use Rattle.gate_inline.proofs.renaming.renamed.Goals as goal

pub returns-in-Some : goal.returns-in-Some
returns-in-Some c = record {
  value =
      sym (renamed-found c.args.from.now (map (wire_there c.args.j) c.args.places.now) c.wires.i c.args.wire c.wire_at.result c.wires-test.true c.if-it-wire.true
      (get-map (wire_there c.args.j) c.args.places.now c.wires.i _ _ (inside _ _ c.in-Some.ensures.lookup.0) c.in-Some.ensures.lookup.1 c.wire_at.ensures.value) c.wires.invariant);
}

pub wires-preserved : goal.wires-preserved
wires-preserved c = renamed-next c.args.from.now (map (wire_there c.args.j) c.args.places.now) c.wires.i c.args.wire c.wires-test.true c.if-it-wire.false c.wires.invariant
