-- Working form. Path sums in variables that are numbered as they come up. Each variable of an H has its name, which is that of a
-- path sum with named variables, and names stand in a list.
--     AreAmong names vs       each of vs stands among the names
--     wires_on g, wires_touched gs     the wires of a gate, and of a list of gates
--     IsTouched ws g          the wires of gate g stand among the wires ws
--     place_in ws q           the place of wire q among the wires ws, and their number where it isn't there
--     counts ws xs            how many H stand before, where xs has that for the wires ws; none on another wire
--     labels_on n ws ls       the labels of all n wires, where ls are those of the wires ws; another wire has its own variable
--     variable n g s          the variable of a gate that is an H, by its name, and none of another gate;  variables_of n gs s: those of
--                             the H of a list, in order
--     seen_last gs s          how many H stand on each wire behind a list
--     number_by n names v     the number of a variable: those of the n wires come first, and then the names in order
--     after_by n r g w s      the labels after gate g, where r tells which variable stands for each named one, and w are those before
--     last_by n r gs w s      the labels after a list of gates
--     hadamards_by n r gs w s     the H of a list, each as its name and the set of the label before it
--     term_by n r g w s, terms_by n r gs w s      what a gate, and what a list, puts on sets
--     constant_by n r gs w s  what the gates of a list put on none, together
--     SameBy n r A B          the same H with the same sets, the same last labels, and on each set the same total modulo 8
--     SameFunctionBy n r A B  the same, but for the totals, and the same phase modulo 8 for all values of the variables
use Rattle.std.specs.Prelude.{◌≡◌, ℕ, ◌+◌, ◌-◌, ◌%◌, ◌^◌, ◌<◌, cond, true, List, [], ◌∷◌, ◌++◌, get_or, nat_eq}
use Rattle.std.specs.List.{list_any, position_or_len}
use Rattle.unitary_model.specs.Acts.{Bits}
use Rattle.circuit_list.specs.declared.Gate.{Gate}
use Rattle.circuit_list.specs.declared.Gate.TheVariants.{H, X, P, Cx}
use Rattle.path_parity.specs.NamedSums.{Seen, constant_at, hadamard, next_variable, seen_after, set_before, total, unseen}
use Rattle.path_parity.specs.PathFunctions.{phase}
use Rattle.path_parity.specs.PathSum.{PathLabel, Wires, with_label, add_labels, flipped, fresh, own_labels}

abbrev pub AreAmong : List ℕ → List ℕ → Type 0
AreAmong names [] = Unit {0}
AreAmong names (v ∷ vs) = (list_any (nat_eq v) names ≡ true) × AreAmong names vs

abbrev pub wires_on : Gate → List ℕ
wires_on (H q) = q ∷ []
wires_on (X q) = q ∷ []
wires_on (P k q) = q ∷ []
wires_on (Cx c t) = c ∷ t ∷ []

abbrev pub wires_touched : List Gate → List ℕ
wires_touched [] = []
wires_touched (g ∷ gs) = wires_on g ++ wires_touched gs

abbrev pub IsTouched : List ℕ → Gate → Type 0
IsTouched wires (H q) = list_any (nat_eq q) wires ≡ true
IsTouched wires (X q) = list_any (nat_eq q) wires ≡ true
IsTouched wires (P k q) = list_any (nat_eq q) wires ≡ true
IsTouched wires (Cx c t) = (list_any (nat_eq c) wires ≡ true) × (list_any (nat_eq t) wires ≡ true)

abbrev pub place_in : List ℕ → ℕ → ℕ
place_in wires q = position_or_len (nat_eq q) wires

abbrev pub counts : List ℕ → List ℕ → Seen
counts wires xs = λ q. get_or xs (place_in wires q) 0

abbrev pub labels_on : ℕ → List ℕ → List PathLabel → Wires
labels_on n wires ls = λ q. get_or ls (place_in wires q) (own_labels n q)

abbrev pub variable : ℕ → Gate → Seen → List ℕ
variable n (H q) s = next_variable n s q ∷ []
variable n (X q) s = []
variable n (P k q) s = []
variable n (Cx c t) s = []

abbrev pub variables_of : ℕ → List Gate → Seen → List ℕ
variables_of n [] s = []
variables_of n (g ∷ gs) s = variable n g s ++ variables_of n gs (seen_after g s)

abbrev pub seen_last : List Gate → Seen → Seen
seen_last [] s = s
seen_last (g ∷ gs) s = seen_last gs (seen_after g s)

abbrev pub number_by : ℕ → List ℕ → ℕ → ℕ
number_by n names v = n + position_or_len (nat_eq v) names

abbrev pub after_by : ℕ → (ℕ → ℕ) → Gate → Wires → Seen → Wires
after_by n r (H q) w s = with_label w q (fresh (r (next_variable n s q)))
after_by n r (X q) w s = with_label w q (flipped (w q))
after_by n r (P k q) w s = w
after_by n r (Cx c t) w s = with_label w t (add_labels (w t) (w c))

abbrev pub last_by : ℕ → (ℕ → ℕ) → List Gate → Wires → Seen → Wires
last_by n r [] w s = w
last_by n r (g ∷ gs) w s = last_by n r gs (after_by n r g w s) (seen_after g s)

abbrev pub hadamards_by : ℕ → (ℕ → ℕ) → List Gate → Wires → Seen → List (ℕ × ℕ)
hadamards_by n r [] w s = []
hadamards_by n r (g ∷ gs) w s = hadamard n g w s ++ hadamards_by n r gs (after_by n r g w s) (seen_after g s)

abbrev pub term_by : ℕ → (ℕ → ℕ) → Gate → Wires → Seen → List (ℕ × ℕ)
term_by n r (H q) w s = cond (w q).bit ((2 ^ r (next_variable n s q), 4) ∷ []) []
term_by n r (X q) w s = []
term_by n r (P k q) w s = ((w q).variables, cond (w q).bit (8 - k) k) ∷ []
term_by n r (Cx c t) w s = []

abbrev pub terms_by : ℕ → (ℕ → ℕ) → List Gate → Wires → Seen → List (ℕ × ℕ)
terms_by n r [] w s = []
terms_by n r (g ∷ gs) w s = term_by n r g w s ++ terms_by n r gs (after_by n r g w s) (seen_after g s)

abbrev pub constant_by : ℕ → (ℕ → ℕ) → List Gate → Wires → Seen → ℕ
constant_by n r [] w s = 0
constant_by n r (g ∷ gs) w s = constant_at g w + constant_by n r gs (after_by n r g w s) (seen_after g s)

pub record SameBy (n : ℕ) (r : ℕ → ℕ) (A B : List Gate) : Type 0 where
  pub sets : (v : ℕ) → set_before v (hadamards_by n r B (own_labels n) unseen) ≡ set_before v (hadamards_by n r A (own_labels n) unseen)
  pub last : (q : ℕ) → q < n → last_by n r B (own_labels n) unseen q ≡ last_by n r A (own_labels n) unseen q
  pub totals : (m : ℕ) → total m (terms_by n r B (own_labels n) unseen) % 8 ≡ total m (terms_by n r A (own_labels n) unseen) % 8

pub record SameFunctionBy (n : ℕ) (r : ℕ → ℕ) (A B : List Gate) : Type 0 where
  pub sets : (v : ℕ) → set_before v (hadamards_by n r B (own_labels n) unseen) ≡ set_before v (hadamards_by n r A (own_labels n) unseen)
  pub last : (q : ℕ) → q < n → last_by n r B (own_labels n) unseen q ≡ last_by n r A (own_labels n) unseen q
  pub phases : (v : Bits) → phase (terms_by n r B (own_labels n) unseen) v % 8 ≡ phase (terms_by n r A (own_labels n) unseen) v % 8
