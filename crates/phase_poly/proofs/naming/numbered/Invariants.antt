-- The gates so far, by numbers.
use Rattle.std.proofs.Common.{◌≡◌, ℕ, length, take}
use Rattle.phase_poly.specs.Polys.{AreDihedral}
use Rattle.phase_poly.specs.Named.{named_all}
use Rattle.phase_poly.proofs.naming.numbered.Given as goal

abbrev pub invariant-numbered : goal.invariant-numbered
invariant-numbered l = record {
  gates : named_all l.names l.list.items ≡ take l.g-index l.gates;
  dihedral : (n : ℕ) → AreDihedral n (take l.g-index l.gates) → AreDihedral (length l.names) l.list.items;
}
