use Rattle.std.proofs.Common.{◌≡◌, ◌++◌, take, drop}
use Rattle.unitary_model.specs.OddPaths.{toggle}
use Rattle.unitary_reference.proofs.paths.flip.Given as goal

-- the labels so far are others
abbrev pub invariant-loop-place : goal.invariant-loop-place
invariant-loop-place l = record {
  kept : l.odd.items ≡ l.fn.odd.items;
  others : toggle l.label l.odd.items ≡ take l.place l.odd.items ++ toggle l.label (drop l.place l.odd.items);
}
