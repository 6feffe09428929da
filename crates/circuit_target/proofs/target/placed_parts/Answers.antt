-- One part more.
use Rattle.std.proofs.Common.{◌+◌, map, subst, sym, take}
use Rattle.std.specs.List.{AllZip}
use Rattle.circuit_target.specs.Making.{IsPlacedPart}
use Rattle.circuit_target.proofs.PartLaws.{part-of_source, zip-more}
use Rattle.circuit_target.proofs.target.placed_parts.Goals as goal

pub placed_part-requires-clause-fine : goal.placed_part-requires-clause-fine
placed_part-requires-clause-fine c =
    let f = c.facts.ensures in
    (part-of_source c.args.source.now c.parts-parts.result.now c.parts.part-index c.part-item.result c.parts-parts.ensures.lists f.parts f.fine
    c.parts-parts.ensures.wires c.parts-test.true c.part-item.is).1

pub parts-preserved : goal.parts-preserved
parts-preserved c =
    let f = c.facts.ensures in
    let n = c.args.source.now.wires in
    let os = c.parts-parts.result.now in
    let i = c.parts.part-index in
    let part = c.part-item.result in
    let m = c.in_ok-placed_part.field-0 in
    let same = (part-of_source c.args.source.now os i part c.parts-parts.ensures.lists f.parts f.fine c.parts-parts.ensures.wires c.parts-test.true
    c.part-item.is).0 in
    subst (AllZip (IsPlacedPart n) (take (i + 1) (map (λ o. o.list) os))) (sym c.in_ok-push.ensures.items)
    (zip-more (IsPlacedPart n) (λ o. o.list) os c.parts.made.items i part m c.parts-test.true c.part-item.is c.parts.invariant
    (subst (λ k. IsPlacedPart k part.list m) same c.in_ok-placed_part.ensures))
