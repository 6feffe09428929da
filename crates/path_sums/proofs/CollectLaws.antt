-- What stands on sets, in the program's map.
--     same_row            whether two keys have the same row
--     equal, own          equal numbers
--     sums-insert, AreTotals-insert   a total put in
--     is_row              whether a key has this row
--     sums-known, AreTotals-known     another total of a row that is there
--     AreNone es          each total is 0
--     sums-none           then so is the sum on each set
--     none-sums           and the other way round, where no row stands twice
--     Adds-insert, Adds-known         what is added to a set
use Rattle.std.proofs.Common.{All, zero, suc, length, get_or, ◌≡◌, ℕ, ◌+◌, ◌*◌, ◌%◌, ◌<◌, Bool, true, false, cond, List, [], ◌∷◌, Vec, Some, refl, sym, ◌∙◌, ap, arith, zero-add, true≢false}
use Rattle.std.specs.Prelude.{nat_eq, unwrap_or}
use Rattle.std.specs.List.{IsDistinct, AllByRecursion}
use Rattle.std.specs.Map.{keys_of, lookup, set_value}
use Rattle.std.specs.Cmp.Lexicographic.{pointwise, bytes_decides}
use Rattle.std.specs.declared.alloc.Global.{Global}
use Rattle.std.proofs.lemmas.Bool.Decides.{nat_tests}
use Rattle.indexmap.specs.IndexMap.{insert_entry}
use Rattle.path_parity.specs.NamedSums.{total}
use Rattle.path_sums.specs.Sums.{Adds, AreTotals, Collected, IsCompact, compact_set, sums_of}
use Rattle.path_sums.proofs.SparseLaws.{compact-same}

abbrev pub same_row : Vec ℕ Global → Vec ℕ Global → Bool
same_row x y = pointwise nat_eq x.items y.items

sums-insert : (m : ℕ) (es : List (Vec ℕ Global × ℕ)) (key : Vec ℕ Global) (v : ℕ) →
    total m (sums_of (insert_entry same_row es key v)) + cond (nat_eq (compact_set key.items) m) (unwrap_or (lookup (same_row key) es) 0) 0
    ≡ total m (sums_of es) + cond (nat_eq (compact_set key.items) m) v 0
sums-insert m [] key v = go (nat_eq (compact_set key.items) m)
  where
    go : (t : Bool) → cond t v 0 + 0 + cond t 0 0 ≡ 0 + cond t v 0
    go true = omega arith
    go false = omega arith
sums-insert m (e ∷ es) key v = go (same_row key e.0) refl (sums-insert m es key v)
  where
    here : (t : Bool) (r : ℕ) → cond t v 0 + r + cond t e.1 0 ≡ cond t e.1 0 + r + cond t v 0
    here t r = omega arith

    further : (a b c d : ℕ) (x : ℕ) → a + b ≡ c + d → x + a + b ≡ x + c + d
    further a b c d x h = omega arith

    go : (b : Bool) → same_row key e.0 ≡ b →
        total m (sums_of (insert_entry same_row es key v)) + cond (nat_eq (compact_set key.items) m) (unwrap_or (lookup (same_row key) es) 0) 0
        ≡ total m (sums_of es) + cond (nat_eq (compact_set key.items) m) v 0 →
        total m (sums_of (cond b ((e.0, v) ∷ es) (e ∷ insert_entry same_row es key v))) + cond (nat_eq (compact_set key.items) m) (unwrap_or (cond b (Some e.1) (lookup (same_row key) es)) 0) 0
        ≡ cond (nat_eq (compact_set e.0.items) m) e.1 0 + total m (sums_of es) + cond (nat_eq (compact_set key.items) m) v 0
    go true f h =
        let same : compact_set key.items ≡ compact_set e.0.items = ap compact_set ((bytes_decides key.items e.0.items).0 f) in
        (λ i. cond (nat_eq (compact_set e.0.items) m) v 0 + total m (sums_of es) + cond (nat_eq (same i) m) e.1 0)
        ∙ here (nat_eq (compact_set e.0.items) m) (total m (sums_of es))
        ∙ sym (λ i. cond (nat_eq (compact_set e.0.items) m) e.1 0 + total m (sums_of es) + cond (nat_eq (same i) m) v 0)
    go false f h = further _ _ _ _ (cond (nat_eq (compact_set e.0.items) m) e.1 0) h

pub AreTotals-insert : (es : List (Vec ℕ Global × ℕ)) (key : Vec ℕ Global) (v : ℕ) → AreTotals es → IsCompact key.items → v < 8 → AreTotals (insert_entry same_row es key v)
AreTotals-insert [] key v h p lt = (p, lt, tt)
AreTotals-insert (e ∷ es) key v h p lt = go (same_row key e.0) (AreTotals-insert es key v h.2 p lt)
  where
    go : (b : Bool) → AreTotals (insert_entry same_row es key v) → AreTotals (cond b ((e.0, v) ∷ es) (e ∷ insert_entry same_row es key v))
    go true r = (h.0, lt, h.2)
    go false r = (h.0, h.1, r)

-- ---- no total
abbrev pub AreNone : List (Vec ℕ Global × ℕ) → Type 0
AreNone es = All (λ (e : Vec ℕ Global × ℕ). e.1 ≡ 0) es

pub sums-none : (es : List (Vec ℕ Global × ℕ)) (m : ℕ) → AreNone es → total m (sums_of es) ≡ 0
sums-none [] m h = refl
sums-none (e ∷ es) m h = go (nat_eq (compact_set e.0.items) m) (sums-none es m (λ k d lt. h (suc k) d (omega arith))) (h 0 e (omega arith))
  where
    go : (b : Bool) → total m (sums_of es) ≡ 0 → e.1 ≡ 0 → cond b e.1 0 + total m (sums_of es) ≡ 0
    go true f g = omega arith
    go false f g = omega arith

pub equal : (m s : ℕ) → nat_eq m s ≡ true → m ≡ s
equal m s e = grind (arith, nat_tests)

pub own : (m : ℕ) → nat_eq m m ≡ true
own m = grind (arith, nat_tests)

apart : (e : Vec ℕ Global × ℕ) (es : List (Vec ℕ Global × ℕ)) → IsCompact e.0.items → AreTotals es → AllByRecursion (λ (y : Vec ℕ Global). same_row e.0 y ≡ false) (keys_of es) → total (compact_set e.0.items) (sums_of es) ≡ 0
apart e [] p h d = refl
apart e (x ∷ es) p h d = go (nat_eq (compact_set x.0.items) (compact_set e.0.items)) refl (apart e es p h.2 d.1)
  where
    same : nat_eq (compact_set x.0.items) (compact_set e.0.items) ≡ true → same_row e.0 x.0 ≡ true
    same f = (bytes_decides e.0.items x.0.items).1 (sym (compact-same x.0.items e.0.items h.0 p (equal (compact_set x.0.items) (compact_set e.0.items) f)))

    go : (b : Bool) → nat_eq (compact_set x.0.items) (compact_set e.0.items) ≡ b → total (compact_set e.0.items) (sums_of es) ≡ 0 → cond b x.1 0 + total (compact_set e.0.items) (sums_of es) ≡ 0
    go true f r = absurd (true≢false (sym (same f) ∙ d.0))
    go false f r = zero-add (total (compact_set e.0.items) (sums_of es)) ∙ r

pub none-sums : (es : List (Vec ℕ Global × ℕ)) → AreTotals es → IsDistinct same_row (keys_of es) → ((m : ℕ) → total m (sums_of es) % 8 ≡ 0) → AreNone es
unfolding IsDistinct
none-sums [] h d f = λ k d lt. absurd (omega arith)
none-sums (e ∷ es) h d f =
    let none : e.1 ≡ 0 = first (total (compact_set e.0.items) (sums_of es)) (apart e es h.0 h.2 d.0) (sym (ap (λ b. (cond b e.1 0 + total (compact_set e.0.items) (sums_of es)) % 8) (own (compact_set e.0.items))) ∙ f (compact_set e.0.items)) h.1 in
    both none (none-sums es h.2 d.1 (λ m. later (nat_eq (compact_set e.0.items) m) (total m (sums_of es)) none (f m)))
  where
    both : e.1 ≡ 0 → AreNone es → (k : ℕ) (d : Vec ℕ Global × ℕ) → k < length (e ∷ es) → (get_or (e ∷ es) k d).1 ≡ 0
    both g r zero d lt = g
    both g r (suc k) d lt = r k d (omega arith)

    first : (t : ℕ) → t ≡ 0 → (e.1 + t) % 8 ≡ 0 → e.1 < 8 → e.1 ≡ 0
    first t z g lt = omega arith

    later : (b : Bool) (t : ℕ) → e.1 ≡ 0 → (cond b e.1 0 + t) % 8 ≡ 0 → t % 8 ≡ 0
    later true t z g = omega arith
    later false t z g = omega arith

-- ---- what is added
-- one set more
Adds-set : (sign k set : ℕ) (old new : Collected) → ((m : ℕ) → total m new.sets % 8 ≡ (total m old.sets + cond (nat_eq set m) ((k * sign) % 8) 0) % 8) → new.constant ≡ old.constant →
    Adds sign ((set, k) ∷ []) 0 old new
Adds-set sign k set old new h e = record { sets = λ m. go (nat_eq set m) (total m new.sets) (total m old.sets) (h m); constant = omega arith }
  where
    go : (b : Bool) (x y : ℕ) → x % 8 ≡ (y + cond b ((k * sign) % 8) 0) % 8 → x % 8 ≡ (y + sign * (cond b k 0 + 0)) % 8
    go true x y f = omega arith
    go false x y f = omega arith

-- the program's map
pub Adds-insert : (sign k c : ℕ) (es : List (Vec ℕ Global × ℕ)) (key : Vec ℕ Global) (had v : ℕ) → had ≡ unwrap_or (lookup (same_row key) es) 0 → v ≡ (had % 8 + (k * sign) % 8) % 8 →
    Adds sign ((compact_set key.items, k) ∷ []) 0 (record { sets = sums_of es; constant = c }) (record { sets = sums_of (insert_entry same_row es key v); constant = c })
Adds-insert sign k c es key had v e f = Adds-set sign k (compact_set key.items) (record { sets = sums_of es; constant = c }) (record { sets = sums_of (insert_entry same_row es key v); constant = c })
    (λ m. go (nat_eq (compact_set key.items) m) (total m (sums_of (insert_entry same_row es key v))) (total m (sums_of es)) (unwrap_or (lookup (same_row key) es) 0) e (sums-insert m es key v)) refl
  where
    go : (b : Bool) (x y h : ℕ) → had ≡ h → x + cond b h 0 ≡ y + cond b v 0 → x % 8 ≡ (y + cond b ((k * sign) % 8) 0) % 8
    go true x y h g r = omega (arith, f)
    go false x y h g r = omega arith

-- ---- a row that is there
abbrev pub is_row : List ℕ → Vec ℕ Global → Bool
is_row row key = pointwise nat_eq row key.items

sums-known : (m : ℕ) (es : List (Vec ℕ Global × ℕ)) (row : List ℕ) (had v : ℕ) → lookup (is_row row) es ≡ Some had →
    total m (sums_of (set_value (is_row row) es v)) + cond (nat_eq (compact_set row) m) had 0 ≡ total m (sums_of es) + cond (nat_eq (compact_set row) m) v 0
sums-known m [] row had v h = absurd (cc)
sums-known m (e ∷ es) row had v h = go (is_row row e.0) refl h (sums-known m es row had v)
  where
    here : (t : Bool) (r : ℕ) → cond t v 0 + r + cond t had 0 ≡ cond t had 0 + r + cond t v 0
    here t r = omega arith

    further : (x a b c d : ℕ) → a + b ≡ c + d → x + a + b ≡ x + c + d
    further x a b c d h = omega arith

    go : (b : Bool) → is_row row e.0 ≡ b → cond b (Some e.1) (lookup (is_row row) es) ≡ Some had →
        (lookup (is_row row) es ≡ Some had → total m (sums_of (set_value (is_row row) es v)) + cond (nat_eq (compact_set row) m) had 0 ≡ total m (sums_of es) + cond (nat_eq (compact_set row) m) v 0) →
        total m (sums_of (cond b ((e.0, v) ∷ es) (e ∷ set_value (is_row row) es v))) + cond (nat_eq (compact_set row) m) had 0
        ≡ cond (nat_eq (compact_set e.0.items) m) e.1 0 + total m (sums_of es) + cond (nat_eq (compact_set row) m) v 0
    go true f g r =
        let same : compact_set row ≡ compact_set e.0.items = ap compact_set ((bytes_decides row e.0.items).0 f) in
        let value : had ≡ e.1 = cc in
        (λ i. cond (nat_eq (compact_set e.0.items) m) v 0 + total m (sums_of es) + cond (nat_eq (same i) m) had 0)
        ∙ here (nat_eq (compact_set e.0.items) m) (total m (sums_of es))
        ∙ (λ i. cond (nat_eq (compact_set e.0.items) m) (value i) 0 + total m (sums_of es) + cond (nat_eq (sym same i) m) v 0)
    go false f g r = further (cond (nat_eq (compact_set e.0.items) m) e.1 0) (total m (sums_of (set_value (is_row row) es v))) (cond (nat_eq (compact_set row) m) had 0) (total m (sums_of es)) (cond (nat_eq (compact_set row) m) v 0) (r g)

pub AreTotals-known : (es : List (Vec ℕ Global × ℕ)) (row : List ℕ) (v : ℕ) → AreTotals es → v < 8 → AreTotals (set_value (is_row row) es v)
AreTotals-known [] row v h lt = tt
AreTotals-known (e ∷ es) row v h lt = go (is_row row e.0) (AreTotals-known es row v h.2 lt)
  where
    go : (b : Bool) → AreTotals (set_value (is_row row) es v) → AreTotals (cond b ((e.0, v) ∷ es) (e ∷ set_value (is_row row) es v))
    go true r = (h.0, lt, h.2)
    go false r = (h.0, h.1, r)

pub Adds-known : (sign k c : ℕ) (es : List (Vec ℕ Global × ℕ)) (row : List ℕ) (had v : ℕ) → lookup (is_row row) es ≡ Some had → v ≡ (had % 8 + (k * sign) % 8) % 8 →
    Adds sign ((compact_set row, k) ∷ []) 0 (record { sets = sums_of es; constant = c }) (record { sets = sums_of (set_value (is_row row) es v); constant = c })
Adds-known sign k c es row had v e f = Adds-set sign k (compact_set row) (record { sets = sums_of es; constant = c }) (record { sets = sums_of (set_value (is_row row) es v); constant = c })
    (λ m. go (nat_eq (compact_set row) m) (total m (sums_of (set_value (is_row row) es v))) (total m (sums_of es)) (sums-known m es row had v e)) refl
  where
    go : (b : Bool) (x y : ℕ) → x + cond b had 0 ≡ y + cond b v 0 → x % 8 ≡ (y + cond b ((k * sign) % 8) 0) % 8
    go true x y r = omega (arith, f)
    go false x y r = omega arith
