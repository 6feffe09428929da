use Rattle.std.proofs.Common.{◌≡◌, [], ◌∷◌, ◌++◌, slice_index_or, arith}
use Rattle.std.proofs.lemmas.Grind.{common_steps}
use Rattle.circuit_list.specs.declared.Gate.TheVariants.{H}
use Rattle.phase_poly.proofs.RelinkedLaws.{hadamards-more}
use Rattle.spare_layers.proofs.pass.push_hadamards.Goals as goal

pub pushed-preserved : goal.pushed-preserved
pushed-preserved c =
    let pushed : c.push.new.self.items ≡ c.pushed.list.items ++ H (slice_index_or c.args.wires.now c.pushed.q-index 0) ∷ [] = grind (arith, common_steps) in
    hadamards-more c.args.wires.now c.pushed.q-index 0 c.args.list.now.items c.pushed.list.items c.push.new.self.items c.pushed-test.true c.pushed.invariant pushed
