use Rattle.circuit_target.proofs.TargetLaws.{HasSteps-summed, IsOptimised-rewritten}
use Rattle.circuit_target.proofs.target.optimised.Goals as goal

pub returns-clause-optimised : goal.returns-clause-optimised
returns-clause-optimised c =
    let e = c.in_ok-expanded.ensures in
    let r = c.in_ok-passed.ensures in
    IsOptimised-rewritten _ _ c.in_ok-expanded.expanded c.in_ok-passed.field-0.passed _ e.wires e.below e.same (e.odd_paths _) e.cx_count r.wires
    r.law r.settled c.turn_sum-turn.ensures.sum c.facts.ensures.fine

pub returns-clause-steps : goal.returns-clause-steps
returns-clause-steps c =
    let e = c.in_ok-expanded.ensures in
    let r = c.in_ok-passed.ensures in
    HasSteps-summed _ _ c.in_ok-expanded.expanded c.in_ok-passed.field-0.passed _ c.in_ok-passed.field-0.steps e.wires e.gates e.turn
    c.turn_sum-turn.ensures.sum r.steps
