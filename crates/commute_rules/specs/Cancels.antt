-- Which gates cancel or merge where they are neighbours, pair by pair.
--   cancel_of g h    Both turn: g and h together are w^turn, and go; Merge k: they are one P(k); No: neither
--   Cancels g h      g and h cancel or merge
--   with_phase k g   P(k) in the place of a phase g
use Rattle.std.specs.Prelude.{◌≢◌, ℕ, ◌+◌, ◌%◌, ◌==◌, ◌&&◌, cond}
use Rattle.circuit_list.specs.declared.Gate.{Gate}
use Rattle.circuit_list.specs.declared.Gate.TheVariants.{H, X, P, Cx}
use Rattle.commute_rules.specs.declared.Cancel.{Cancel}
use Rattle.commute_rules.specs.declared.Cancel.TheVariants.{No, Both, Merge}

abbrev pub cancel_of : Gate → Gate → Cancel
cancel_of (H q) (H r) = cond (q == r) (Both 6) No
cancel_of (X q) (X r) = cond (q == r) (Both 4) No
cancel_of (Cx c t) (Cx d u) = cond ((c == d) && (t == u)) (Both 0) No
cancel_of (P j q) (P k r) = cond (q == r) (cond ((j + k) % 8 == 0) (Both 0) (Merge ((j + k) % 8))) No
cancel_of g h = No

abbrev pub Cancels : Gate → Gate → Type 0
Cancels g h = cancel_of g h ≢ No

abbrev pub with_phase : ℕ → Gate → Gate
with_phase k (H q) = H q
with_phase k (X q) = X q
with_phase k (P j q) = P k q
with_phase k (Cx c t) = Cx c t
