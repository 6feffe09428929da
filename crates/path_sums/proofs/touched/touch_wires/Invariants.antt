-- The wires of the gates before this one are there.
use Rattle.std.proofs.Common.{◌≡◌, drop}
use Rattle.std.specs.Prelude.{nat_eq}
use Rattle.indexmap.specs.IndexSet.{insert_all}
use Rattle.path_sums.specs.Names.{wires_touched}
use Rattle.path_sums.proofs.touched.touch_wires.Given as goal

abbrev pub invariant-gates : goal.invariant-gates
invariant-gates l = insert_all nat_eq l.touched.keys (wires_touched (drop l.place l.body.gates)) ≡ insert_all nat_eq l.initial.touched.keys (wires_touched l.body.gates)
