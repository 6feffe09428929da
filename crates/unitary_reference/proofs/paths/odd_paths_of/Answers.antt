use Rattle.std.proofs.Common.{arith}
use Rattle.unitary_model.specs.OddPaths.{first_walk, walked_all}
use Rattle.unitary_reference.specs.Values.{walk_of}
use Rattle.unitary_reference.proofs.WalkLaws.{unused-all, variables_at, wires_at}
use Rattle.unitary_reference.proofs.paths.odd_paths_of.Goals as goal

pub own_labels-requires : goal.own_labels-requires
own_labels-requires c = record { wires_limit = omega (arith, unused-all c.args.ops.now (first_walk c.args.wires), c.requires.variables) }

pub walk_on-requires-clause-below : goal.walk_on-requires-clause-below
walk_on-requires-clause-below c = wires_at c.args.ops.now c.loop-op.op-index _ c.args.wires 64 (omega (arith, unused-all c.args.ops.now (first_walk c.args.wires), c.requires.variables)) c.loop-op-test.true c.requires.below

pub walk_on-requires-clause-variables : goal.walk_on-requires-clause-variables
walk_on-requires-clause-variables c =
    variables_at c.args.ops.now c.loop-op.op-index _ (walk_of c.loop-op.walk) (walked_all c.args.ops.now (first_walk c.args.wires)) 64 c.loop-op-test.true c.loop-op.invariant c.requires.variables
