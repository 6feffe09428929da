-- The lesser of two words comes next, or the sum of both.
use Rattle.std.proofs.Common.{◌-◌, take, length-drop, ◌≡◌, ◌⊎◌, inl, inr, append-nil, ℕ, ◌+◌, ◌^◌, ◌<◌, ◌≤◌, ◌++◌, ◌∷◌, [], List, bit_xor, drop, get_or, length, arith, sym, subst, ap, ◌∙◌}
use Rattle.std.proofs.Math.ListN.{drop_of_length-le}
use Rattle.std.proofs.Math.Seq.{take-length}
use Rattle.std.proofs.lemmas.Nat.{xor_lt}
use Rattle.path_sums.specs.declared.words.Word.{Word}
use Rattle.path_sums.specs.Words.{AreAscending, words_set}
use Rattle.path_sums.proofs.WordLaws.{IsMerging, merging-turned, merging-left, merging-both, merging-end, word-next, word-small}
use Rattle.path_sums.proofs.words.write_sum.Goals as goal
use Rattle.path_sums.proofs.words.write_sum.Goals.{then-both-test+else-j-ys, else-both-test}

abbrev none : Word
none = record { place = 0; bits = 0 }

at_both : (row xs ys : List Word) (i j all : ℕ) → i < length xs → j < length ys → IsMerging row (drop i xs) (drop j ys) all →
    IsMerging row (get_or xs i none ∷ drop (i + 1) xs) (get_or ys j none ∷ drop (j + 1) ys) all
at_both row xs ys i j all lt gt h =
    subst (λ zs. IsMerging row (get_or xs i none ∷ drop (i + 1) xs) zs all) (word-next ys j none gt)
    (subst (λ zs. IsMerging row zs (drop j ys) all) (word-next xs i none lt) h)

step-left : (row xs ys : List Word) (i j all : ℕ) → i < length xs → j < length ys → (get_or xs i none).place < (get_or ys j none).place → IsMerging row (drop i xs) (drop j ys) all →
    IsMerging (row ++ get_or xs i none ∷ []) (drop (i + 1) xs) (drop j ys) all
step-left row xs ys i j all lt gt less h =
    subst (λ zs. IsMerging (row ++ get_or xs i none ∷ []) (drop (i + 1) xs) zs all) (sym (word-next ys j none gt))
    (merging-left row (get_or xs i none) (drop (i + 1) xs) (get_or ys j none) (drop (j + 1) ys) all less (at_both row xs ys i j all lt gt h))

pub both-preserved-then-x-y : goal.both-preserved-then-x-y
both-preserved-then-x-y c =
    let xs = c.args.xs.now in
    let ys = c.args.ys.now in
    let all = bit_xor (words_set xs) (words_set ys) in
    record {
      within_x = omega arith;
      within_y = omega arith;
      merging = subst (λ row. IsMerging row (drop (c.both.i + 1) xs) (drop c.both.j ys) all) (sym c.in_ok-push.ensures.items)
          (step-left c.both.row.items xs ys c.both.i c.both.j all c.both-test.true c.if-j-ys.true c.if-x-y.true c.both.invariant.merging);
    }

pub both-preserved-then-y-x : goal.both-preserved-then-y-x
both-preserved-then-y-x c =
    let xs = c.args.xs.now in
    let ys = c.args.ys.now in
    let all = bit_xor (words_set xs) (words_set ys) in
    record {
      within_x = omega arith;
      within_y = omega arith;
      merging = subst (λ row. IsMerging row (drop c.both.i xs) (drop (c.both.j + 1) ys) all) (sym c.in_ok-push-2.ensures.items)
          (merging-turned _ (drop (c.both.j + 1) ys) (drop c.both.i xs) all
          (step-left c.both.row.items ys xs c.both.j c.both.i all c.if-j-ys.true c.both-test.true c.if-y-x.true (merging-turned c.both.row.items (drop c.both.i xs) (drop c.both.j ys) all c.both.invariant.merging)));
    }

pub both-preserved : goal.both-preserved
both-preserved c =
    let xs = c.args.xs.now in
    let ys = c.args.ys.now in
    let all = bit_xor (words_set xs) (words_set ys) in
    let x : Word = get_or xs c.both.i none in
    let y : Word = get_or ys c.both.j none in
    let same : x.place ≡ y.place = omega (arith, c.if-x-y.false, c.if-y-x.false) in
    let wide : bit_xor x.bits y.bits < 2 ^ 64 = xor_lt 64 x.bits y.bits (word-small xs c.both.i none c.requires.left c.both-test.true) (word-small ys c.both.j none c.requires.right c.if-j-ys.true) in
    record {
      within_x = omega arith;
      within_y = omega arith;
      merging = subst (λ row. IsMerging row (drop (c.both.i + 1) xs) (drop (c.both.j + 1) ys) all) (sym c.in_ok-push_sum.ensures)
          (merging-both c.both.row.items x (drop (c.both.i + 1) xs) y (drop (c.both.j + 1) ys) all same wide (at_both c.both.row.items xs ys c.both.i c.both.j all c.both-test.true c.if-j-ys.true c.both.invariant.merging));
    }

whole : (xs : List Word) (i : ℕ) → take (length xs - i) (drop i xs) ≡ drop i xs
whole xs i = ap (λ k. take k (drop i xs)) (sym (length-drop i xs)) ∙ take-length (drop i xs)

-- one of the two has no word left, and the words of the other come behind
ended : (row xs ys new : List Word) (i j all : ℕ) → (length xs ≤ i) ⊎ (length ys ≤ j) → IsMerging row (drop i xs) (drop j ys) all → new ≡ (row ++ drop i xs) ++ drop j ys → (words_set new ≡ all) × AreAscending new
ended row xs ys new i j all e h f = subst (λ zs. (words_set zs ≡ all) × AreAscending zs) (sym f) (go e)
  where
    go : (length xs ≤ i) ⊎ (length ys ≤ j) → (words_set ((row ++ drop i xs) ++ drop j ys) ≡ all) × AreAscending ((row ++ drop i xs) ++ drop j ys)
    go (inl le) =
        let no : drop i xs ≡ [] = drop_of_length-le xs le in
        subst (λ zs. (words_set (zs ++ drop j ys) ≡ all) × AreAscending (zs ++ drop j ys)) (sym (ap (λ zs. row ++ zs) no ∙ append-nil row))
        (merging-end row (drop j ys) all (subst (λ zs. IsMerging row zs (drop j ys) all) no h))
    go (inr le) =
        let no : drop j ys ≡ [] = drop_of_length-le ys le in
        subst (λ zs. (words_set zs ≡ all) × AreAscending zs) (sym (ap (λ zs. (row ++ drop i xs) ++ zs) no ∙ append-nil (row ++ drop i xs)))
        (merging-end row (drop i xs) all (merging-turned row (drop i xs) [] all (subst (λ zs. IsMerging row (drop i xs) zs all) no h)))

pub returns : goal.returns
returns c =
    let xs = c.args.xs.now in
    let ys = c.args.ys.now in
    let over : (length xs ≤ c.both.i) ⊎ (length ys ≤ c.both.j) = elim c.both-test.branch [
      | then-both-test+else-j-ys w ↦ inr w.if-j-ys.false
      | else-both-test w ↦ inl w.both-test.false
    ] in
    let end = ended c.both.row.items xs ys c.extend_from_slice-2.new.self.items c.both.i c.both.j (bit_xor (words_set xs) (words_set ys)) over c.both.invariant.merging
    (c.in_ok-extend_from_slice-2.ensures.items ∙ (λ k. (c.in_ok-extend_from_slice.ensures.items ∙ ap (λ zs. c.both.row.items ++ zs) (whole xs c.both.i)) k ++ whole ys c.both.j k)) in
    record { set = end.0; words = end.1 }
