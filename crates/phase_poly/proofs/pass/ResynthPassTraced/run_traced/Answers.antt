-- One step leads to the circuit with resynthesised layers.
use Rattle.std.proofs.lemmas.Grind.{common_steps}
use Rattle.std.proofs.Common.{arith}
use Rattle.rewrite_pass.specs.Traces.{IsSumsStep}
use Rattle.rewrite_pass.proofs.TracedLaws.{IsTraced_sums}
use Rattle.phase_poly.proofs.pass.ResynthPassTraced.run_traced.Goals as goal

pub returns-in_ok-push_sums-in-Some-clause-traced : goal.returns-in_ok-push_sums-in-Some-clause-traced
returns-in_ok-push_sums-in-Some-clause-traced c =
    let p = c.in-Some.passed in
    let sums : IsSumsStep c.args.body.wires p.body.gates c.args.body.gates p.body.gates p.turn = grind (arith, common_steps) in
    IsTraced_sums c.args.body.wires c.args.body.gates p.body.gates p.turn c.args.trace.now c.push_sums.new.self sums c.in_ok-push_sums-in-Some.ensures.told
