-- Wires that are touched, and what is kept of each.
--     IsPlaced ks v, placed   a number that stands among others stands at its place
--     place_within, place-of  the place of a number, or the one behind all
--     found                   what stands at such a place
--     place_back              the place of what stands at a place, where no number stands twice
--     set-at                  an element put in
--     touch-more, touch-end   the wires along a circuit
--     touched-at              a gate of a list whose wires are touched
--     below-all               wires that are there and those of fine gates
--     seen-set, labels-put    one H more on a wire, and another label
--     label-there             the label of a wire
--     labels-first            each wire has its own variable
--     same-on, on-same        the labels of all wires are the same where those of the touched wires are
use Rattle.std.proofs.Common.{◌≡◌, inl, inr, ◌⊎◌, ℕ, zero, suc, ◌+◌, ◌^◌, ◌<◌, ◌≤◌, Bool, true, false, cond, not, if◌then◌else◌, ◌||◌, List, [], ◌∷◌, ◌++◌, All, Some, None, length, map, get_or, set, drop, refl, sym, subst, ◌∙◌, ap, arith, true≢false}
use Rattle.std.specs.Prelude.{nat_eq, nat_lt, position, slice_get, unwrap_or}
use Rattle.std.specs.List.{AllByRecursion, IsDistinct, list_any}
use Rattle.std.proofs.Math.ListN.{drop_of_length-le}
use Rattle.std.proofs.Math.Path.{fun_ext}
use Rattle.std.proofs.lemmas.Bool.{cases_lt}
use Rattle.std.proofs.lemmas.Bool.Decides.{nat_tests}
use Rattle.std.proofs.lemmas.List.{get_or-map, get_or_default, get_or_past, length-map, map-set}
use Rattle.std.proofs.lemmas.List.Elements.{All-from_recursion}
use Rattle.std.proofs.lemmas.List.Sums.{fold-append}
use Rattle.indexmap.specs.IndexSet.{insert_all, insert_key}
use Rattle.circuit_list.specs.declared.Gate.{Gate}
use Rattle.circuit_list.specs.declared.Gate.TheVariants.{H, X, P, Cx}
use Rattle.circuit_list.specs.Gates.{IsFine}
use Rattle.path_parity.specs.declared.label.Label.{Label}
use Rattle.path_parity.specs.LabelWalks.{labels_of_list}
use Rattle.path_parity.specs.NamedSums.{seen_more}
use Rattle.path_parity.specs.PathSum.{PathLabel, fresh, label, own_labels, with_label}
use Rattle.path_parity.specs.Sets.{label_of}
use Rattle.path_parity.proofs.LoopLaws.{drop-get}
use Rattle.path_sums.proofs.CollectLaws.{equal, own}
use Rattle.path_sums.specs.Names.{AreAmong, IsTouched, counts, labels_on, place_in, wires_touched, wires_on}

-- ---- numbers
unlike : (m s : ℕ) → (m ≡ s → ⊥) → nat_eq m s ≡ false
unlike m s e = grind (arith, nat_tests)

clash : (m s : ℕ) → m ≡ s → nat_eq m s ≡ false → ⊥
clash m s f e = grind (arith, nat_tests)

-- ---- places
pub record IsPlaced (names : List ℕ) (v : ℕ) : Type 0 where
  pub within : place_in names v < length names
  pub there : get_or names (place_in names v) 0 ≡ v

pub placed : (names : List ℕ) (v : ℕ) → list_any (nat_eq v) names ≡ true → IsPlaced names v
placed [] v h = absurd (true≢false (sym h))
placed (x ∷ xs) v h = go (nat_eq v x) refl h (placed xs v)
  where
    go : (b : Bool) → nat_eq v x ≡ b → (b || list_any (nat_eq v) xs) ≡ true → (list_any (nat_eq v) xs ≡ true → IsPlaced xs v) → IsPlaced (x ∷ xs) v
    go true e f r = let first : place_in (x ∷ xs) v ≡ 0 = ap (λ b. cond (not b) (1 + place_in xs v) 0) e in
        record { within = omega (arith, first); there = ap (λ k. get_or (x ∷ xs) k 0) first ∙ sym (equal v x e) }
    go false e f r = let later : place_in (x ∷ xs) v ≡ suc (place_in xs v) = ap (λ b. cond (not b) (1 + place_in xs v) 0) e ∙ omega arith in
        record { within = omega (arith, later, (r f).within); there = ap (λ k. get_or (x ∷ xs) k 0) later ∙ (r f).there }

pub place_within : (names : List ℕ) (v : ℕ) → place_in names v ≤ length names
place_within [] v = omega arith
place_within (x ∷ xs) v = go (nat_eq v x) (place_within xs v)
  where
    go : (b : Bool) → place_in xs v ≤ length xs → cond (not b) (1 + place_in xs v) 0 ≤ suc (length xs)
    go true r = omega arith
    go false r = omega arith

pub place-of : (names : List ℕ) (v : ℕ) → unwrap_or (position (nat_eq v) names) (length names) ≡ place_in names v
place-of names v = go (nat_lt (place_in names v) (length names)) refl
  where
    go : (b : Bool) → nat_lt (place_in names v) (length names) ≡ b → unwrap_or (cond b (Some (place_in names v)) None) (length names) ≡ place_in names v
    go true e = refl
    go false e = let not_less : length names ≤ place_in names v = grind (arith, nat_tests) in omega (arith, not_less, place_within names v)

pub found : (ws : List ℕ) (q : ℕ) → place_in ws q < length ws → get_or ws (place_in ws q) 0 ≡ q
found [] q lt = absurd (omega arith)
found (x ∷ xs) q lt = go (nat_eq q x) refl lt (found xs q)
  where
    later : (k : ℕ) → 1 + k ≡ suc k
    later k = omega arith

    go : (b : Bool) → nat_eq q x ≡ b → cond (not b) (1 + place_in xs q) 0 < suc (length xs) → (place_in xs q < length xs → get_or xs (place_in xs q) 0 ≡ q) →
        get_or (x ∷ xs) (cond (not b) (1 + place_in xs q) 0) 0 ≡ q
    go true e l r = sym (equal q x e)
    go false e l r = ap (λ k. get_or (x ∷ xs) k 0) (later (place_in xs q)) ∙ r (omega (arith, l))

same_place : (ws : List ℕ) (p q : ℕ) → list_any (nat_eq q) ws ≡ true → nat_eq (place_in ws p) (place_in ws q) ≡ nat_eq p q
same_place ws p q h = go (nat_eq p q) refl
  where
    both : place_in ws p ≡ place_in ws q → p ≡ q
    both e = let there = placed ws q h in sym (found ws p (omega (arith, there.within, e))) ∙ ap (λ k. get_or ws k 0) e ∙ there.there

    go : (b : Bool) → nat_eq p q ≡ b → nat_eq (place_in ws p) (place_in ws q) ≡ b
    go true e = ap (λ r. nat_eq (place_in ws r) (place_in ws q)) (equal p q e) ∙ own (place_in ws q)
    go false e = unlike (place_in ws p) (place_in ws q) (λ f. clash p q (both f) e)

pub place_back : (ws : List ℕ) (i : ℕ) → IsDistinct nat_eq ws → i < length ws → place_in ws (get_or ws i 0) ≡ i
unfolding IsDistinct
place_back [] i d lt = absurd (omega arith)
place_back (x ∷ xs) zero d lt = ap (λ b. cond (not b) (1 + place_in xs x) 0) (own x)
place_back (x ∷ xs) (suc i) d lt = ap (λ b. cond (not b) (1 + place_in xs y) 0) other ∙ next (place_in xs y) i (place_back xs i d.1 (omega arith))
  where
    y : ℕ
    y = get_or xs i 0

    turned : (m s : ℕ) → nat_eq m s ≡ false → nat_eq s m ≡ false
    turned m s e = unlike s m (λ f. clash m s (sym f) e)

    other : nat_eq y x ≡ false
    other = turned x y (All-from_recursion (λ z. nat_eq x z ≡ false) xs d.0 i 0 (omega (arith, lt)))

    next : (k i : ℕ) → k ≡ i → 1 + k ≡ suc i
    next k i e = omega arith

-- ---- one element changed
pub set-at : {A : Type 0} (xs : List A) (q : ℕ) (x d : A) (p : ℕ) → q < length xs → get_or (set xs q x) p d ≡ cond (nat_eq p q) x (get_or xs p d)
set-at [] q x d p h = absurd (omega arith)
set-at (y ∷ ys) zero x d zero h = refl
set-at (y ∷ ys) zero x d (suc p) h = λ i. cond (sym (never p) i) x (get_or ys p d)
  where
    never : (p : ℕ) → nat_eq (suc p) 0 ≡ false
    never p = grind (arith, nat_tests)
set-at (y ∷ ys) (suc q) x d zero h = λ i. cond (sym (never q) i) x y
  where
    never : (q : ℕ) → nat_eq 0 (suc q) ≡ false
    never q = grind (arith, nat_tests)
set-at (y ∷ ys) (suc q) x d (suc p) h = set-at ys q x d p (omega arith) ∙ (λ i. cond (same p q i) x (get_or ys p d))
  where
    same : (p q : ℕ) → nat_eq p q ≡ nat_eq (suc p) (suc q)
    same p q = grind (arith, nat_tests)

-- ---- along a circuit
pub touch-more : (gs : List Gate) (i : ℕ) (g : Gate) (ws more all : List ℕ) → slice_get gs i ≡ Some g → more ≡ insert_all nat_eq ws (wires_on g) →
    insert_all nat_eq ws (wires_touched (drop i gs)) ≡ all → insert_all nat_eq more (wires_touched (drop (i + 1) gs)) ≡ all
touch-more gs i g ws more all there e h =
    (λ j. insert_all nat_eq (e j) (wires_touched (drop (i + 1) gs)))
    ∙ sym (fold-append (insert_key nat_eq) ws (wires_on g) (wires_touched (drop (i + 1) gs)))
    ∙ sym (λ j. insert_all nat_eq ws (wires_touched (drop-get gs i g there j))) ∙ h

pub touch-end : (gs : List Gate) (i : ℕ) (ws all : List ℕ) → length gs ≤ i → insert_all nat_eq ws (wires_touched (drop i gs)) ≡ all → ws ≡ all
touch-end gs i ws all le h = sym (λ j. insert_all nat_eq ws (wires_touched (drop_of_length-le gs le j))) ∙ h

first : (ws : List ℕ) (g : Gate) (more : List ℕ) → AreAmong ws (wires_on g ++ more) → IsTouched ws g × AreAmong ws more
first ws (H q) more h = h
first ws (X q) more h = h
first ws (P k q) more h = h
first ws (Cx c t) more h = ((h.0, h.1.0), h.1.1)

pub touched-at : (ws : List ℕ) (gs : List Gate) (i : ℕ) (g : Gate) → slice_get gs i ≡ Some g → AreAmong ws (wires_touched gs) → IsTouched ws g
touched-at ws [] i g e h = absurd (cc)
touched-at ws (x ∷ xs) zero g e h = let same : x ≡ g = cc in subst (IsTouched ws) same (first ws x (wires_touched xs) h).0
touched-at ws (x ∷ xs) (suc i) g e h = touched-at ws xs i g e (first ws x (wires_touched xs) h).1

abbrev AreBelow : ℕ → List ℕ → Type 0
AreBelow n ws = AllByRecursion (λ q. q < n) ws

below-push : (n : ℕ) (ws : List ℕ) (v : ℕ) → AreBelow n ws → v < n → AreBelow n (ws ++ v ∷ [])
below-push n [] v h lt = (lt, tt)
below-push n (w ∷ ws) v h lt = (h.0, below-push n ws v h.1 lt)

below-append : (n : ℕ) (us vs : List ℕ) → AreBelow n us → AreBelow n vs → AreBelow n (us ++ vs)
below-append n [] vs h k = k
below-append n (u ∷ us) vs h k = (h.0, below-append n us vs h.1 k)

below-on : (n : ℕ) (g : Gate) → IsFine n g → AreBelow n (wires_on g)
below-on n (H q) h = (h, tt)
below-on n (X q) h = (h, tt)
below-on n (P k q) h = (h.0, tt)
below-on n (Cx c t) h = (h.0, (h.1.0, tt))

below-of : (n : ℕ) (gs : List Gate) → All (IsFine n) gs → AreBelow n (wires_touched gs)
below-of n [] h = tt
below-of n (g ∷ gs) h = below-append n (wires_on g) (wires_touched gs) (below-on n g (h 0 g (omega arith))) (below-of n gs (λ k d lt. h (suc k) d (omega arith)))

below-insert : (n : ℕ) (ws vs : List ℕ) → AreBelow n ws → AreBelow n vs → AreBelow n (insert_all nat_eq ws vs)
below-insert n ws [] h k = h
below-insert n ws (v ∷ vs) h k = below-insert n (insert_key nat_eq ws v) vs (go (list_any (nat_eq v) ws)) k.1
  where
    go : (b : Bool) → AreBelow n (if b then ws else ws ++ v ∷ [])
    go true = h
    go false = below-push n ws v h k.0

pub below-all : (n : ℕ) (one two : List ℕ) (A B : List Gate) → All (IsFine n) A → All (IsFine n) B → one ≡ insert_all nat_eq [] (wires_touched A) → two ≡ insert_all nat_eq one (wires_touched B) → All (λ q. q < n) two
below-all n one two A B fineA fineB e f = All-from_recursion (λ q. q < n) two
    (subst (AreBelow n) (sym (f ∙ ap (λ ws. insert_all nat_eq ws (wires_touched B)) e))
    (below-insert n (insert_all nat_eq [] (wires_touched A)) (wires_touched B) (below-insert n [] (wires_touched A) tt (below-of n A fineA)) (below-of n B fineB)))

-- ---- counts and labels
pub counts-set : (ws seen : List ℕ) (q x p : ℕ) → list_any (nat_eq q) ws ≡ true → length seen ≡ length ws → counts ws (set seen (place_in ws q) x) p ≡ cond (nat_eq p q) x (counts ws seen p)
counts-set ws seen q x p h long = let within = (placed ws q h).within in
    set-at seen (place_in ws q) x 0 (place_in ws p) (omega (arith, within, long)) ∙ (λ i. cond (same_place ws p q h i) x (get_or seen (place_in ws p) 0))

pub seen-set : (ws seen : List ℕ) (q : ℕ) → list_any (nat_eq q) ws ≡ true → length seen ≡ length ws → counts ws (set seen (place_in ws q) (suc (get_or seen (place_in ws q) 0))) ≡ seen_more (counts ws seen) q
seen-set ws seen q h long = fun_ext (λ p. counts-set ws seen q (suc (counts ws seen q)) p h long ∙ go p (nat_eq p q) refl)
  where
    go : (p : ℕ) (b : Bool) → nat_eq p q ≡ b → cond b (suc (counts ws seen q)) (counts ws seen p) ≡ cond b (suc (counts ws seen p)) (counts ws seen p)
    go p true e = ap (λ k. suc (counts ws seen k)) (sym (equal p q e))
    go p false e = refl

pub labels-put : (n : ℕ) (ws : List ℕ) (labels : List Label) (q : ℕ) (l : Label) → list_any (nat_eq q) ws ≡ true → length labels ≡ length ws →
    labels_on n ws (map label_of (set labels (place_in ws q) l)) ≡ with_label (labels_on n ws (map label_of labels)) q (label_of l)
labels-put n ws labels q l h long = fun_ext (λ p.
    ap (λ (ls : List PathLabel). get_or ls (place_in ws p) (own_labels n p)) (map-set label_of labels (place_in ws q) l)
    ∙ set-at (map label_of labels) (place_in ws q) (label_of l) (own_labels n p) (place_in ws p) (omega (arith, (placed ws q h).within, long, length-map labels label_of))
    ∙ (λ i. cond (same_place ws p q h i) (label_of l) (labels_on n ws (map label_of labels) p)))

pub label-there : (n : ℕ) (ws : List ℕ) (labels : List Label) (q : ℕ) (l : Label) → place_in ws q < length labels → l ≡ get_or labels (place_in ws q) l → label_of l ≡ labels_on n ws (map label_of labels) q
label-there n ws labels q l lt e = ap label_of e ∙ sym (get_or-map label_of labels (place_in ws q) l (own_labels n q) lt)

pub labels-first : (n : ℕ) (ws : List ℕ) (labels : List Label) → All (λ q. q < n) ws → map label_of labels ≡ map fresh ws → labels_on n ws (map label_of labels) ≡ own_labels n
labels-first n ws labels below e = fun_ext (λ q. ap (λ (ls : List PathLabel). get_or ls (place_in ws q) (own_labels n q)) e ∙ go q (cases_lt (place_in ws q) (length ws)))
  where
    less : (q : ℕ) → q < n → nat_lt q n ≡ true
    less q lt = grind (arith, nat_tests)

    go : (q : ℕ) → (place_in ws q < length ws) ⊎ (length ws ≤ place_in ws q) → get_or (map fresh ws) (place_in ws q) (own_labels n q) ≡ own_labels n q
    go q (inl lt) = get_or-map fresh ws (place_in ws q) 0 (own_labels n q) lt ∙ ap fresh (found ws q lt)
        ∙ sym (λ i. label (cond (less q (subst (λ k. k < n) (found ws q lt) (below (place_in ws q) 0 lt)) i) (2 ^ q) 0) false)
    go q (inr le) = get_or_past (map fresh ws) (place_in ws q) (own_labels n q) (omega (arith, le, length-map ws fresh))

pub same-on : (n : ℕ) (ws : List ℕ) (ls rs : List PathLabel) → length ls ≡ length ws → length rs ≡ length ws →
    ((p : ℕ) → p < length ws → labels_of_list ls p ≡ labels_of_list rs p) → (q : ℕ) → labels_on n ws ls q ≡ labels_on n ws rs q
same-on n ws ls rs long wide h q = go (cases_lt (place_in ws q) (length ws))
  where
    go : (place_in ws q < length ws) ⊎ (length ws ≤ place_in ws q) → labels_on n ws ls q ≡ labels_on n ws rs q
    go (inl lt) = get_or_default ls (place_in ws q) (own_labels n q) (label 0 false) (omega (arith, lt, long)) ∙ h (place_in ws q) lt
        ∙ sym (get_or_default rs (place_in ws q) (own_labels n q) (label 0 false) (omega (arith, lt, wide)))
    go (inr le) = get_or_past ls (place_in ws q) (own_labels n q) (omega (arith, le, long)) ∙ sym (get_or_past rs (place_in ws q) (own_labels n q) (omega (arith, le, wide)))

pub on-same : (n : ℕ) (ws : List ℕ) (ls rs : List PathLabel) → All (λ q. q < n) ws → IsDistinct nat_eq ws → length ls ≡ length ws → length rs ≡ length ws →
    ((q : ℕ) → q < n → labels_on n ws ls q ≡ labels_on n ws rs q) → (p : ℕ) → p < length ws → labels_of_list ls p ≡ labels_of_list rs p
on-same n ws ls rs below distinct long wide h p lt =
    let q = get_or ws p 0 in
    let back : place_in ws q ≡ p = place_back ws p distinct lt in
    get_or_default ls p (label 0 false) (own_labels n q) (omega (arith, lt, long)) ∙ ap (λ k. get_or ls k (own_labels n q)) (sym back)
    ∙ h q (below p 0 lt)
    ∙ ap (λ k. get_or rs k (own_labels n q)) back ∙ sym (get_or_default rs p (label 0 false) (own_labels n q) (omega (arith, lt, wide)))

pub on-counts : (n : ℕ) (ws xs ys : List ℕ) → All (λ q. q < n) ws → IsDistinct nat_eq ws → length xs ≡ length ws → length ys ≡ length ws → ((q : ℕ) → q < n → counts ws xs q ≡ counts ws ys q) →
    (p : ℕ) → p < length ws → get_or xs p 0 ≡ get_or ys p 0
on-counts n ws xs ys below distinct long wide h p lt =
    let q = get_or ws p 0 in
    let back : place_in ws q ≡ p = place_back ws p distinct lt in
    ap (λ k. get_or xs k 0) (sym back) ∙ h q (below p 0 lt) ∙ ap (λ k. get_or ys k 0) back
