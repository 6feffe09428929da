-- Which gates may be exchanged, pair by pair.
--   commutes g h     g and h may be exchanged: they have no wire in common; both are P, or both X; one is a CNOT and the other a P
--                    that isn't on its target or an X that isn't on its control; or both are CNOTs, and no wire is the control
--                    of the one and the target of the other
use Rattle.std.specs.Prelude.{◌==◌, ◌&&◌, Bool, true, not}
use Rattle.circuit_list.specs.declared.Gate.{Gate}
use Rattle.circuit_list.specs.declared.Gate.TheVariants.{H, X, P, Cx}

abbrev pub commutes : Gate → Gate → Bool
commutes (P j q) (P k r) = true
commutes (X q) (X r) = true
commutes (P k q) (Cx c t) = not (q == t)
commutes (Cx c t) (P k q) = not (q == t)
commutes (X q) (Cx c t) = not (q == c)
commutes (Cx c t) (X q) = not (q == c)
commutes (Cx c t) (Cx d u) = not (c == u) && not (t == d)
commutes (H q) (H r) = not (q == r)
commutes (H q) (X r) = not (q == r)
commutes (X q) (H r) = not (q == r)
commutes (H q) (P k r) = not (q == r)
commutes (P k q) (H r) = not (q == r)
commutes (X q) (P k r) = not (q == r)
commutes (P k q) (X r) = not (q == r)
commutes (H q) (Cx c t) = not (q == c) && not (q == t)
commutes (Cx c t) (H q) = not (q == c) && not (q == t)
