-- One part more.
use Rattle.std.proofs.Common.{◌≡◌, ◌+◌, All, is_some, map, subst, sym, take}
use Rattle.std.specs.Prelude.{IfSome}
use Rattle.std.specs.List.{AllZip}
use Rattle.std.proofs.lemmas.List.Elements.{All-push}
use Rattle.circuit_target.specs.Targets.{HasSteps, IsOptimised}
use Rattle.circuit_target.proofs.PartLaws.{part-of_source, zip-more}
use Rattle.circuit_target.proofs.target.optimised_parts.Goals as goal

pub optimised-requires-clause-fine : goal.optimised-requires-clause-fine
optimised-requires-clause-fine c =
    let f = c.facts.ensures in
    (part-of_source c.args.source.now c.parts-parts.result.now c.parts.part-index c.part-item.result c.parts-parts.ensures.lists f.parts f.fine
    c.parts-parts.ensures.wires c.parts-test.true c.part-item.is).1

pub parts-preserved : goal.parts-preserved
parts-preserved c =
    let f = c.facts.ensures in
    let n = c.args.source.now.wires in
    let os = c.parts-parts.result.now in
    let i = c.parts.part-index in
    let part = c.part-item.result in
    let r = c.in_ok-optimised.field-0 in
    let same = (part-of_source c.args.source.now os i part c.parts-parts.ensures.lists f.parts f.fine c.parts-parts.ensures.wires c.parts-test.true
    c.part-item.is).0 in
    record {
      optimised = subst (AllZip (λ us r. IsOptimised n us r.passed) (take (i + 1) (map (λ o. o.list) os))) (sym c.in_ok-push.ensures.items)
          (zip-more (λ us r. IsOptimised n us r.passed) (λ o. o.list) os c.parts.rewritten.items i part r c.parts-test.true c.part-item.is
          c.parts.invariant.optimised (subst (λ k. IsOptimised k part.list r.passed) same c.in_ok-optimised.ensures.optimised));
      asked = subst (All (λ r. is_some r.steps ≡ c.args.traced)) (sym c.in_ok-push.ensures.items)
          (All-push (λ r. is_some r.steps ≡ c.args.traced) c.parts.rewritten.items r c.parts.invariant.asked c.in_ok-optimised.ensures.asked);
      steps = subst (AllZip (λ us r. IfSome r.steps (HasSteps n us r.passed)) (take (i + 1) (map (λ o. o.list) os))) (sym c.in_ok-push.ensures.items)
          (zip-more (λ us r. IfSome r.steps (HasSteps n us r.passed)) (λ o. o.list) os c.parts.rewritten.items i part r c.parts-test.true c.part-item.is
          c.parts.invariant.steps (subst (λ k. IfSome r.steps (HasSteps k part.list r.passed)) same c.in_ok-optimised.ensures.steps));
    }
