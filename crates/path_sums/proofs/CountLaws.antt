-- How many H stand on each wire, and their names.
--     written-back            what was lent as a slice, and has as many counts
--     noted-more, noted-end   the names along a circuit
--     seen-more, seen-end     the counts
--     same-counts             circuits with the same sets before the H have as many H on each wire
use Rattle.std.proofs.Common.{◌≡◌, ℕ, suc, ◌+◌, ◌*◌, ◌<◌, ◌≤◌, Bool, true, false, cond, List, [], ◌∷◌, ◌++◌, All, Some, None, length, drop, take, append-nil, take_all, refl, sym, subst, ◌∙◌, ap, arith}
use Rattle.std.specs.Prelude.{nat_eq, slice_get}
use Rattle.std.specs.List.{IsDistinct}
use Rattle.std.proofs.Math.ListN.{drop_of_length-le}
use Rattle.std.proofs.lemmas.Bool.Decides.{nat_tests}
use Rattle.std.proofs.lemmas.List.{ext_get_or}
use Rattle.std.proofs.lemmas.List.Sums.{fold-append}
use Rattle.indexmap.specs.IndexSet.{insert_all, insert_key}
use Rattle.circuit_list.specs.declared.Gate.{Gate}
use Rattle.circuit_list.specs.declared.Gate.TheVariants.{H, X, P, Cx}
use Rattle.circuit_list.specs.Gates.{IsFine}
use Rattle.path_parity.specs.NamedSums.{Seen, hadamards, named_after, seen_after, seen_more, set_before, unseen}
use Rattle.path_parity.specs.PathSum.{Wires, own_labels}
use Rattle.path_parity.proofs.LoopLaws.{drop-get}
use Rattle.path_sums.specs.Names.{counts, seen_last, variable, variables_of}
use Rattle.path_sums.proofs.CollectLaws.{equal}
use Rattle.path_sums.proofs.NameLaws.{other_variable}
use Rattle.path_sums.proofs.TouchedLaws.{on-counts}

-- ---- counts in a slice
pub written-back : (xs ys : List ℕ) (n : ℕ) → length xs ≡ length ys → length ys ≤ n → take n (xs ++ drop (length xs) ys) ≡ xs
written-back xs ys n e le = ap (λ zs. take n (xs ++ zs)) (drop_of_length-le ys (omega arith)) ∙ ap (take n) (append-nil xs) ∙ take_all n xs (omega arith)

-- ---- along a circuit
pub noted-more : (n : ℕ) (gs : List Gate) (i : ℕ) (g : Gate) (names more all : List ℕ) (s u : Seen) → slice_get gs i ≡ Some g → u ≡ seen_after g s → more ≡ insert_all nat_eq names (variable n g s) →
    insert_all nat_eq names (variables_of n (drop i gs) s) ≡ all → insert_all nat_eq more (variables_of n (drop (i + 1) gs) u) ≡ all
noted-more n gs i g names more all s u there e f h =
    (λ j. insert_all nat_eq (f j) (variables_of n (drop (i + 1) gs) (e j)))
    ∙ sym (fold-append (insert_key nat_eq) names (variable n g s) (variables_of n (drop (i + 1) gs) (seen_after g s)))
    ∙ sym (λ j. insert_all nat_eq names (variables_of n (drop-get gs i g there j) s)) ∙ h

pub noted-end : (n : ℕ) (gs : List Gate) (i : ℕ) (names all : List ℕ) (s : Seen) → length gs ≤ i → insert_all nat_eq names (variables_of n (drop i gs) s) ≡ all → names ≡ all
noted-end n gs i names all s le h = sym (λ j. insert_all nat_eq names (variables_of n (drop_of_length-le gs le j) s)) ∙ h

pub seen-more : (gs : List Gate) (i : ℕ) (g : Gate) (s u all : Seen) → slice_get gs i ≡ Some g → u ≡ seen_after g s → seen_last (drop i gs) s ≡ all → seen_last (drop (i + 1) gs) u ≡ all
seen-more gs i g s u all there e h = (λ j. seen_last (drop (i + 1) gs) (e j)) ∙ sym (λ j. seen_last (drop-get gs i g there j) s) ∙ h

pub seen-end : (gs : List Gate) (i : ℕ) (s all : Seen) → length gs ≤ i → seen_last (drop i gs) s ≡ all → s ≡ all
seen-end gs i s all le h = sym (λ j. seen_last (drop_of_length-le gs le j) s) ∙ h

-- ---- counts
grows : (gs : List Gate) (s : Seen) (q : ℕ) → s q ≤ seen_last gs s q
grows [] s q = omega arith
grows (H p ∷ gs) s q = go (nat_eq q p) (grows gs (seen_more s p) q)
  where
    go : (b : Bool) → cond b (suc (s q)) (s q) ≤ seen_last gs (seen_more s p) q → s q ≤ seen_last gs (seen_more s p) q
    go true h = omega arith
    go false h = h
grows (X p ∷ gs) s q = grows gs s q
grows (P k p ∷ gs) s q = grows gs s q
grows (Cx c t ∷ gs) s q = grows gs s q

fine-rest : (n : ℕ) (g : Gate) (gs : List Gate) → All (IsFine n) (g ∷ gs) → All (IsFine n) gs
fine-rest n g gs h = λ k d lt. h (suc k) d (omega arith)

unlike : (m s : ℕ) → (m ≡ s → ⊥) → nat_eq m s ≡ false
unlike m s e = grind (arith, nat_tests)

clash : (m s : ℕ) → m ≡ s → nat_eq m s ≡ false → ⊥
clash m s e f = grind (arith, nat_tests)

module _ (n q k : ℕ) (lt : q < n) where
  abbrev v : ℕ
  v = suc k * n + q

  none : (gs : List Gate) (w : Wires) (s : Seen) → All (IsFine n) gs → seen_last gs s q ≤ k → set_before v (hadamards n gs w s) ≡ None
  none [] w s fine le = refl
  none (H p ∷ gs) w s fine le =
      (λ i. cond (other i) (Some (w p).variables) (set_before v (hadamards n gs (named_after n (H p) w s) (seen_more s p))))
      ∙ none gs (named_after n (H p) w s) (seen_more s p) (fine-rest n (H p) gs fine) le
    where
      further : (b : Bool) → nat_eq q p ≡ b → q ≡ p → cond b (suc (s q)) (s q) ≤ k → s p ≡ k → ⊥
      further true e f g h = omega (arith, g, h, ap s f)
      further false e f g h = clash q p f e

      apart : suc (s p) * n + p ≡ suc k * n + q → ⊥
      apart e = let same = other_variable n (suc (s p)) (suc k) p q (fine 0 (H p) (omega arith)) lt e in
          further (nat_eq q p) refl (sym same.0) (omega (arith, grows gs (seen_more s p) q, le)) (omega (arith, same.1))

      other : nat_eq (suc (s p) * n + p) v ≡ false
      other = unlike (suc (s p) * n + p) v apart
  none (X p ∷ gs) w s fine le = none gs (named_after n (X p) w s) s (fine-rest n (X p) gs fine) le
  none (P j p ∷ gs) w s fine le = none gs w s (fine-rest n (P j p) gs fine) le
  none (Cx c t ∷ gs) w s fine le = none gs (named_after n (Cx c t) w s) s (fine-rest n (Cx c t) gs fine) le

  some : (gs : List Gate) (w : Wires) (s : Seen) → s q ≤ k → k < seen_last gs s q → set_before v (hadamards n gs w s) ≡ None → ⊥
  some [] w s le more e = omega (arith, le, more)
  some (H p ∷ gs) w s le more e = go (nat_eq (suc (s p) * n + p) v) refl e (λ l g. some gs (named_after n (H p) w s) (seen_more s p) l more g)
    where
      later : (b : Bool) → nat_eq q p ≡ b → nat_eq (suc (s p) * n + p) v ≡ false → cond b (suc (s q)) (s q) ≤ k
      later false f g = le
      later true f g = bigger (nat_eq (s q) k) refl
        where
          same : s q ≡ k → suc (s p) * n + p ≡ v
          same h = (λ i. suc (s (sym (equal q p f) i)) * n + sym (equal q p f) i) ∙ ap (λ m. suc m * n + q) h

          bigger : (b : Bool) → nat_eq (s q) k ≡ b → suc (s q) ≤ k
          bigger true h = absurd (clash (suc (s p) * n + p) v (same (equal (s q) k h)) g)
          bigger false h = let differ : s q ≡ k → ⊥ = λ d. clash (s q) k d h in omega (arith, le, differ)

      go : (b : Bool) → nat_eq (suc (s p) * n + p) v ≡ b → cond b (Some (w p).variables) (set_before v (hadamards n gs (named_after n (H p) w s) (seen_more s p))) ≡ None →
          (cond (nat_eq q p) (suc (s q)) (s q) ≤ k → set_before v (hadamards n gs (named_after n (H p) w s) (seen_more s p)) ≡ None → ⊥) → ⊥
      go true f g r = absurd (cc)
      go false f g r = r (later (nat_eq q p) refl f) g
  some (X p ∷ gs) w s le more e = some gs (named_after n (X p) w s) s le more e
  some (P j p ∷ gs) w s le more e = some gs w s le more e
  some (Cx c t ∷ gs) w s le more e = some gs (named_after n (Cx c t) w s) s le more e

fewer : (n : ℕ) (A B : List Gate) (q : ℕ) → q < n → All (IsFine n) A → ((v : ℕ) → set_before v (hadamards n B (own_labels n) unseen) ≡ set_before v (hadamards n A (own_labels n) unseen)) →
    seen_last A unseen q < seen_last B unseen q → ⊥
fewer n A B q lt fine same less =
    some n q (seen_last A unseen q) lt B (own_labels n) unseen (omega arith) less
    (same (suc (seen_last A unseen q) * n + q) ∙ none n q (seen_last A unseen q) lt A (own_labels n) unseen fine (omega arith))

pub same-counts : (n : ℕ) (ws : List ℕ) (A B : List Gate) (xs ys : List ℕ) → All (IsFine n) A → All (IsFine n) B → All (λ q. q < n) ws → IsDistinct nat_eq ws → length xs ≡ length ws → length ys ≡ length ws →
    counts ws xs ≡ seen_last A unseen → counts ws ys ≡ seen_last B unseen →
    ((v : ℕ) → set_before v (hadamards n B (own_labels n) unseen) ≡ set_before v (hadamards n A (own_labels n) unseen)) → xs ≡ ys
same-counts n ws A B xs ys fineA fineB below distinct long wide seenA seenB same =
    ext_get_or 0 xs ys (long ∙ sym wide) (λ p lt. on-counts n ws xs ys below distinct long wide go p (subst (λ m. p < m) long lt))
  where
    equal_counts : (a b : ℕ) → (a < b → ⊥) → (b < a → ⊥) → a ≡ b
    equal_counts a b f g = omega (arith, f, g)

    go : (q : ℕ) → q < n → counts ws xs q ≡ counts ws ys q
    go q lt = (λ i. seenA i q)
        ∙ equal_counts (seen_last A unseen q) (seen_last B unseen q) (fewer n A B q lt fineA same) (fewer n B A q lt fineB (λ v. sym (same v)))
        ∙ sym (λ i. seenB i q)
