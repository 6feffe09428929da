-- Names, and lists of them.
--   is_one_of     the name is in the list
--   index_of      where it first is, from 0; 0 where it isn't
--   has_repeat    something is twice in the list, by this test
--   with          a naming in which one name has this meaning
use Rattle.std.specs.Prelude.{ℕ, List, [], ◌∷◌, Option, Some, Bool, false, ◌||◌, if◌then◌else◌, unwrap_or}
use Rattle.std.specs.List.{list_any, position}
use Rattle.std.specs.Str.{bytes_eq}

abbrev pub is_one_of : List (List ℕ) → List ℕ → Bool
is_one_of names name = list_any (λ y. bytes_eq name y) names

abbrev pub index_of : List (List ℕ) → List ℕ → ℕ
index_of names name = unwrap_or (position (λ y. bytes_eq name y) names) 0

abbrev pub has_repeat : {A : Type 0} → (A → A → Bool) → List A → Bool
has_repeat same [] = false
has_repeat same (x ∷ xs) = list_any (same x) xs || has_repeat same xs

abbrev pub with : {A : Type 0} → List ℕ → A → (List ℕ → Option A) → List ℕ → Option A
with name meaning others asked = if bytes_eq name asked then Some meaning else others asked
