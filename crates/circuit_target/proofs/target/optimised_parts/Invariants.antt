-- The first parts after all passes.
use Rattle.std.proofs.Common.{◌≡◌, All, is_some, map, take}
use Rattle.std.specs.Prelude.{IfSome}
use Rattle.std.specs.List.{AllZip}
use Rattle.circuit_target.specs.Targets.{HasSteps, IsOptimised}
use Rattle.circuit_target.proofs.target.optimised_parts.Given as goal

abbrev pub invariant-parts : goal.invariant-parts
invariant-parts l = record {
  optimised : AllZip (λ us r. IsOptimised l.source.wires us r.passed) (take l.part-index (map (λ o. o.list) l.parts)) l.rewritten.items;
  asked : All (λ r. is_some r.steps ≡ l.traced) l.rewritten.items;
  steps : AllZip (λ us r. IfSome r.steps (HasSteps l.source.wires us r.passed)) (take l.part-index (map (λ o. o.list) l.parts)) l.rewritten.items;
}
