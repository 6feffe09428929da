-- A merged circuit and its P.
--     frame-merged            the gates that are no P stay
--     marks-merged            its marks are those that stay
--     merged-fine             it is fine
--     totals_from-marks       the totals of a circuit are those of its marks
--     constant_from-marks     and so is the constant
--     constant-merged         the constant of a merged list, gate by gate
--     merged-short            merging adds no gate
--     merged-gone             a P of a set with nothing left goes
--     merged-same             either there are fewer gates, or all stay as they are
use Rattle.std.proofs.Common.{◌≡◌, ℕ, suc, ◌+◌, ◌-◌, ◌%◌, ◌<◌, ◌≤◌, Bool, true, false, cond, List, [], ◌∷◌, ◌++◌, length, refl, sym, ◌∙◌, ap, subst, arith, zero-add, inl, inr}
use Rattle.std.specs.Prelude.{nat_eq}
use Rattle.std.proofs.lemmas.Bool.Decides.{nat_tests}
use Rattle.circuit_list.specs.declared.Gate.{Gate}
use Rattle.circuit_list.specs.declared.Gate.TheVariants.{H, X, P, Cx}
use Rattle.path_parity.specs.PathSum.{PathLabel, Wires, with_label, add_labels, flipped, fresh, labels_after, unused_after}
use Rattle.path_parity.proofs.Totals.{total}
use Rattle.path_parity.proofs.MergeLaws.{marks, frame}
use Rattle.path_parity.proofs.MergeSums.{signed, constant}
use Rattle.path_parity.proofs.MarkLaws.{AreFine}
use Rattle.rewrite_pass.specs.Law.{IsSmallerOrSame}
use Rattle.rotation_merge.specs.Merging.{signed_phase, with_total, totals_from, constant_from, constant_phase, kept_phase, merged_constant, merged_from, left_after}
use Rattle.rotation_merge.proofs.MarkLists.{kept_marks, has, equal, own, zero_test, none_left, small_left, signed-signed, total-has}

pub frame-merged : (gs : List Gate) (w : Wires) (n : ℕ) (T : ℕ → ℕ) → frame (merged_from gs w n T) ≡ frame gs
frame-merged [] w n T = refl
frame-merged (H q ∷ gs) w n T = ap (λ us. H q ∷ us) (frame-merged gs (with_label w q (fresh n)) (suc n) T)
frame-merged (X q ∷ gs) w n T = ap (λ us. X q ∷ us) (frame-merged gs (with_label w q (flipped (w q))) n T)
frame-merged (P k q ∷ gs) w n T = go (nat_eq (T (w q).variables) 0) (frame-merged gs w n (with_total (w q).variables 0 T))
  where
    go : (z : Bool) → frame (merged_from gs w n (with_total (w q).variables 0 T)) ≡ frame gs →
        frame (cond z [] (P (signed_phase (w q) (T (w q).variables)) q ∷ []) ++ merged_from gs w n (with_total (w q).variables 0 T)) ≡ frame gs
    go true r = r
    go false r = r
frame-merged (Cx c t ∷ gs) w n T = ap (λ us. Cx c t ∷ us) (frame-merged gs (with_label w t (add_labels (w t) (w c))) n T)

pub marks-merged : (gs : List Gate) (w : Wires) (n : ℕ) (T : ℕ → ℕ) → marks (merged_from gs w n T) w n ≡ kept_marks (marks gs w n) T
marks-merged [] w n T = refl
marks-merged (H q ∷ gs) w n T = marks-merged gs (with_label w q (fresh n)) (suc n) T
marks-merged (X q ∷ gs) w n T = marks-merged gs (with_label w q (flipped (w q))) n T
marks-merged (P k q ∷ gs) w n T = go (nat_eq (T (w q).variables) 0) (marks-merged gs w n (with_total (w q).variables 0 T))
  where
    go : (z : Bool) → marks (merged_from gs w n (with_total (w q).variables 0 T)) w n ≡ kept_marks (marks gs w n) (with_total (w q).variables 0 T) →
        marks (cond z [] (P (signed_phase (w q) (T (w q).variables)) q ∷ []) ++ merged_from gs w n (with_total (w q).variables 0 T)) w n
        ≡ cond z [] ((w q, signed_phase (w q) (T (w q).variables)) ∷ []) ++ kept_marks (marks gs w n) (with_total (w q).variables 0 T)
    go true r = r
    go false r = λ i. (w q, signed_phase (w q) (T (w q).variables)) ∷ r i
marks-merged (Cx c t ∷ gs) w n T = marks-merged gs (with_label w t (add_labels (w t) (w c))) n T

pub small_rest : (m : ℕ) (T : ℕ → ℕ) → ((s : ℕ) → T s < 8) → (s : ℕ) → with_total m 0 T s < 8
small_rest m T lt s = small_left (nat_eq m s) (T s) (lt s)

pub merged-fine : (gs : List Gate) (n m : ℕ) (w : Wires) (T : ℕ → ℕ) → ((s : ℕ) → T s < 8) → AreFine n gs → AreFine n (merged_from gs w m T)
merged-fine [] n m w T lt f = tt
merged-fine (H q ∷ gs) n m w T lt f = (f.0, merged-fine gs n (suc m) (with_label w q (fresh m)) T lt f.1)
merged-fine (X q ∷ gs) n m w T lt f = (f.0, merged-fine gs n m (with_label w q (flipped (w q))) T lt f.1)
merged-fine (P k q ∷ gs) n m w T lt f =
    go (nat_eq (T (w q).variables) 0) refl (merged-fine gs n m w (with_total (w q).variables 0 T) (small_rest (w q).variables T lt) f.1)
  where
    there : (t : ℕ) → nat_eq t 0 ≡ false → 0 < t
    there t e = grind (arith, nat_tests)

    phase : (b : Bool) (t : ℕ) → 0 < t → t < 8 → (0 < cond b (8 - t) t) × (cond b (8 - t) t < 8)
    phase true t h g = (omega arith, omega arith)
    phase false t h g = (h, g)

    go : (z : Bool) → nat_eq (T (w q).variables) 0 ≡ z → AreFine n (merged_from gs w m (with_total (w q).variables 0 T)) →
        AreFine n (cond z [] (P (signed_phase (w q) (T (w q).variables)) q ∷ []) ++ merged_from gs w m (with_total (w q).variables 0 T))
    go true e r = r
    go false e r = ((f.0.0, phase (w q).bit (T (w q).variables) (there (T (w q).variables) e) (lt (w q).variables)), r)
merged-fine (Cx c t ∷ gs) n m w T lt f = (f.0, merged-fine gs n m (with_label w t (add_labels (w t) (w c))) T lt f.1)

-- ---- totals and constants
pub totals_from-marks : (gs : List Gate) (w : Wires) (n : ℕ) (T : ℕ → ℕ) (s : ℕ) → T s < 8 → totals_from gs w n T s ≡ (T s + total s (signed (marks gs w n))) % 8
totals_from-marks [] w n T s lt = omega arith
totals_from-marks (H q ∷ gs) w n T s lt = totals_from-marks gs (with_label w q (fresh n)) (suc n) T s lt
totals_from-marks (X q ∷ gs) w n T s lt = totals_from-marks gs (with_label w q (flipped (w q))) n T s lt
totals_from-marks (P k q ∷ gs) w n T s lt =
    totals_from-marks gs w n (with_total (w q).variables ((T (w q).variables + signed_phase (w q) k) % 8) T) s (small (nat_eq (w q).variables s) (T (w q).variables + signed_phase (w q) k))
    ∙ go (nat_eq (w q).variables s) refl (total s (signed (marks gs w n))) (signed_phase (w q) k)
  where
    small : (b : Bool) (j : ℕ) → cond b (j % 8) (T s) < 8
    small true j = omega arith
    small false j = lt

    here : (a b c r : ℕ) → a ≡ b → ((a + c) % 8 + r) % 8 ≡ (b + (c + r)) % 8
    here a b c r e = omega arith

    elsewhere : (b r : ℕ) → (b + r) % 8 ≡ (b + (0 + r)) % 8
    elsewhere b r = omega arith

    go : (b : Bool) → nat_eq (w q).variables s ≡ b → (r c : ℕ) → (cond b ((T (w q).variables + c) % 8) (T s) + r) % 8 ≡ (T s + (cond b c 0 + r)) % 8
    go true e r c = here (T (w q).variables) (T s) c r (ap T (equal (w q).variables s e))
    go false e r c = elsewhere (T s) r
totals_from-marks (Cx c t ∷ gs) w n T s lt = totals_from-marks gs (with_label w t (add_labels (w t) (w c))) n T s lt

pub constant_from-marks : (gs : List Gate) (w : Wires) (n : ℕ) → constant_from gs w n ≡ constant (marks gs w n)
constant_from-marks [] w n = refl
constant_from-marks (H q ∷ gs) w n = zero-add (constant_from gs (with_label w q (fresh n)) (suc n)) ∙ constant_from-marks gs (with_label w q (fresh n)) (suc n)
constant_from-marks (X q ∷ gs) w n = zero-add (constant_from gs (with_label w q (flipped (w q))) n) ∙ constant_from-marks gs (with_label w q (flipped (w q))) n
constant_from-marks (P k q ∷ gs) w n = ap (λ c. cond (w q).bit k 0 + c) (constant_from-marks gs w n)
constant_from-marks (Cx c t ∷ gs) w n = zero-add (constant_from gs (with_label w t (add_labels (w t) (w c))) n) ∙ constant_from-marks gs (with_label w t (add_labels (w t) (w c))) n

pub constant-merged : (g : Gate) (gs : List Gate) (w : Wires) (n : ℕ) (T : ℕ → ℕ) →
    constant_from (merged_from (g ∷ gs) w n T) w n
    ≡ merged_constant g w T + constant_from (merged_from gs (labels_after g w n) (unused_after g n) (left_after g w T)) (labels_after g w n) (unused_after g n)
constant-merged (H q) gs w n T = refl
constant-merged (X q) gs w n T = refl
constant-merged (P k q) gs w n T = go (nat_eq (T (w q).variables) 0) (merged_from gs w n (with_total (w q).variables 0 T)) (signed_phase (w q) (T (w q).variables))
  where
    go : (z : Bool) (us : List Gate) (j : ℕ) → constant_from (cond z [] (P j q ∷ []) ++ us) w n ≡ cond z 0 (constant_phase (w q) j) + constant_from us w n
    go true us j = sym (zero-add (constant_from us w n))
    go false us j = refl
constant-merged (Cx c t) gs w n T = refl

-- ---- fewer gates, or the same
at_most_one : (z : Bool) (g : Gate) (us : List Gate) → length (cond z [] (g ∷ []) ++ us) ≤ suc (length us)
at_most_one true g us = omega arith
at_most_one false g us = omega arith

pub merged-short : (gs : List Gate) (w : Wires) (n : ℕ) (T : ℕ → ℕ) → length (merged_from gs w n T) ≤ length gs
merged-short [] w n T = omega arith
merged-short (H q ∷ gs) w n T = omega (arith, merged-short gs (with_label w q (fresh n)) (suc n) T)
merged-short (X q ∷ gs) w n T = omega (arith, merged-short gs (with_label w q (flipped (w q))) n T)
merged-short (P k q ∷ gs) w n T = omega (
  arith,
  merged-short gs w n (with_total (w q).variables 0 T),
  at_most_one (nat_eq (T (w q).variables) 0) (P (signed_phase (w q) (T (w q).variables)) q) (merged_from gs w n (with_total (w q).variables 0 T)),
)
merged-short (Cx c t ∷ gs) w n T = omega (arith, merged-short gs (with_label w t (add_labels (w t) (w c))) n T)

pub merged-gone : (s : ℕ) (gs : List Gate) (w : Wires) (n : ℕ) (T : ℕ → ℕ) → T s ≡ 0 → has s (marks gs w n) ≡ true → length (merged_from gs w n T) < length gs
merged-gone s [] w n T h e = absurd (cc)
merged-gone s (H q ∷ gs) w n T h e = omega (arith, merged-gone s gs (with_label w q (fresh n)) (suc n) T h e)
merged-gone s (X q ∷ gs) w n T h e = omega (arith, merged-gone s gs (with_label w q (flipped (w q))) n T h e)
merged-gone s (P k q ∷ gs) w n T h e =
    go (nat_eq (w q).variables s) refl e (merged-short gs w n (with_total (w q).variables 0 T)) (merged-gone s gs w n (with_total (w q).variables 0 T) (none_left (nat_eq (w q).variables s) (T s) h))
  where
    here : (b : Bool) → b ≡ true → length (merged_from gs w n (with_total (w q).variables 0 T)) ≤ length gs → length (cond b [] (P (signed_phase (w q) (T (w q).variables)) q ∷ []) ++ merged_from gs w n (with_total (w q).variables 0 T)) < suc (length gs)
    here true f le = omega arith
    here false f le = absurd (cc)

    go : (b : Bool) → nat_eq (w q).variables s ≡ b → cond b true (has s (marks gs w n)) ≡ true → length (merged_from gs w n (with_total (w q).variables 0 T)) ≤ length gs →
        (has s (marks gs w n) ≡ true → length (merged_from gs w n (with_total (w q).variables 0 T)) < length gs) →
        length (kept_phase (w q) (T (w q).variables) q ++ merged_from gs w n (with_total (w q).variables 0 T)) < suc (length gs)
    go true f g le r = here (nat_eq (T (w q).variables) 0) (zero_test (T (w q).variables) (ap T (equal (w q).variables s f) ∙ h)) le
    go false f g le r = omega (arith, r g, at_most_one (nat_eq (T (w q).variables) 0) (P (signed_phase (w q) (T (w q).variables)) q) (merged_from gs w n (with_total (w q).variables 0 T)))
merged-gone s (Cx c t ∷ gs) w n T h e = omega (arith, merged-gone s gs (with_label w t (add_labels (w t) (w c))) n T h e)

behind : (g : Gate) (gs us : List Gate) → IsSmallerOrSame gs us → IsSmallerOrSame (g ∷ gs) (g ∷ us)
behind g gs us (inl lt) = inl (omega arith)
behind g gs us (inr e) = inr (ap (λ ks. g ∷ ks) e)

signed_small : (l : PathLabel) (k : ℕ) → 0 < k → k < 8 → signed_phase l k < 8
signed_small l k h lt = go l.bit
  where
    go : (b : Bool) → cond b (8 - k) k < 8
    go true = omega arith
    go false = lt

signed_there : (l : PathLabel) (k : ℕ) → 0 < k → k < 8 → 0 < signed_phase l k
signed_there l k h lt = go l.bit
  where
    go : (b : Bool) → 0 < cond b (8 - k) k
    go true = omega arith
    go false = h

alone_total : (b : Bool) (c r : ℕ) → b ≡ true → c < 8 → r ≡ 0 → (cond b c 0 + r) % 8 ≡ c
alone_total true c r e lt f = omega arith
alone_total false c r e lt f = absurd (cc)

other_totals : (m c : ℕ) (ms : List (PathLabel × ℕ)) (T : ℕ → ℕ) → has m ms ≡ false → ((s : ℕ) → T s ≡ (cond (nat_eq m s) c 0 + total s (signed ms)) % 8) →
    (s : ℕ) → with_total m 0 T s ≡ total s (signed ms) % 8
other_totals m c ms T e h s = go (nat_eq m s) refl
  where
    none : (r : ℕ) → r ≡ 0 → 0 ≡ r % 8
    none r f = omega arith

    go : (b : Bool) → nat_eq m s ≡ b → cond b 0 (T s) ≡ total s (signed ms) % 8
    go true f = none (total s (signed ms)) (ap (λ r. total r (signed ms)) (sym (equal m s f)) ∙ total-has m ms e)
    go false f = h s ∙ (λ i. (cond (f i) c 0 + total s (signed ms)) % 8) ∙ ap (λ r. r % 8) (zero-add (total s (signed ms)))

stays : (l : PathLabel) (k q t : ℕ) (gs us : List Gate) → 0 < k → k < 8 → t ≡ signed_phase l k → IsSmallerOrSame gs us → IsSmallerOrSame (P k q ∷ gs) (kept_phase l t q ++ us)
stays l k q t gs us h lt e r = go (nat_eq t 0) refl
  where
    never : (j : ℕ) → 0 < j → nat_eq j 0 ≡ true → ⊥
    never j g f = grind (arith, nat_tests)

    go : (z : Bool) → nat_eq t 0 ≡ z → IsSmallerOrSame (P k q ∷ gs) (cond z [] (P (signed_phase l t) q ∷ []) ++ us)
    go true f = absurd (never t (subst (λ j. 0 < j) (sym e) (signed_there l k h lt)) f)
    go false f = subst (λ j. IsSmallerOrSame (P k q ∷ gs) (P j q ∷ us)) (sym (ap (signed_phase l) e ∙ signed-signed l k lt)) (behind (P k q) gs us r)

-- the totals are those of the P that are left
abbrev pub HasAll : List Gate → Wires → ℕ → (ℕ → ℕ) → Type 0
HasAll gs w n T = (s : ℕ) → T s ≡ total s (signed (marks gs w n)) % 8

pub merged-same : (gs : List Gate) (w : Wires) (n m : ℕ) (T : ℕ → ℕ) → AreFine m gs → HasAll gs w n T → IsSmallerOrSame gs (merged_from gs w n T)
merged-same [] w n m T f h = inr refl
merged-same (H q ∷ gs) w n m T f h =
    behind (H q) gs (merged_from gs (with_label w q (fresh n)) (suc n) T) (merged-same gs (with_label w q (fresh n)) (suc n) m T f.1 h)
merged-same (X q ∷ gs) w n m T f h =
    behind (X q) gs (merged_from gs (with_label w q (flipped (w q))) n T) (merged-same gs (with_label w q (flipped (w q))) n m T f.1 h)
merged-same (P k q ∷ gs) w n m T f h = go (has (w q).variables (marks gs w n)) refl (merged-same gs w n m (with_total (w q).variables 0 T) f.1)
  where
    nothing : with_total (w q).variables 0 T (w q).variables ≡ 0
    nothing = λ i. cond (own (w q).variables i) 0 (T (w q).variables)

    go : (b : Bool) → has (w q).variables (marks gs w n) ≡ b → (HasAll gs w n (with_total (w q).variables 0 T) → IsSmallerOrSame gs (merged_from gs w n (with_total (w q).variables 0 T))) →
        IsSmallerOrSame (P k q ∷ gs) (kept_phase (w q) (T (w q).variables) q ++ merged_from gs w n (with_total (w q).variables 0 T))
    go true e r = inl (omega (
      arith,
      merged-gone (w q).variables gs w n (with_total (w q).variables 0 T) nothing e,
      at_most_one (nat_eq (T (w q).variables) 0) (P (signed_phase (w q) (T (w q).variables)) q) (merged_from gs w n (with_total (w q).variables 0 T)),
    ))
    go false e r = stays (w q) k q (T (w q).variables) gs (merged_from gs w n (with_total (w q).variables 0 T)) f.0.1.0 f.0.1.1
        (h (w q).variables ∙ alone_total (nat_eq (w q).variables (w q).variables) (signed_phase (w q) k) (total (w q).variables (signed (marks gs w n)))
        (own (w q).variables) (signed_small (w q) k f.0.1.0 f.0.1.1) (total-has (w q).variables (marks gs w n) e))
        (r (other_totals (w q).variables (signed_phase (w q) k) (marks gs w n) T e h))
merged-same (Cx c t ∷ gs) w n m T f h =
    behind (Cx c t) gs (merged_from gs (with_label w t (add_labels (w t) (w c))) n T) (merged-same gs (with_label w t (add_labels (w t) (w c))) n m T f.1 h)
