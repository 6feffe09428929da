use Rattle.std.proofs.Common.{◌≡◌, ℕ, ◌+◌, ◌-◌, ◌<◌, ◌≤◌, ◌⊎◌, inl, inr, List, bit_xor, min, length, get_or, sym, ◌∙◌, ap, arith}
use Rattle.std.proofs.lemmas.Bool.{cases_lt}
use Rattle.path_parity.proofs.SetLaws.{added-word}
use Rattle.path_parity.proofs.packed.add.Goals as goal
use Rattle.path_parity.proofs.packed.add.Invariants.{IsAdded}

-- eight words more
eight-added : (old mid new set : List ℕ) (gap skip k : ℕ) → IsAdded old mid set gap skip k → length new ≡ length mid →
    ((j : ℕ) → j < gap + k → get_or new j 0 ≡ get_or mid j 0) →
    ((j : ℕ) → j < 8 → get_or new (gap + k + j) 0 ≡ bit_xor (get_or mid (gap + k + j) 0) (get_or set (skip + k + j) 0)) →
    ((j : ℕ) → gap + k + 8 ≤ j → get_or new j 0 ≡ get_or mid j 0) → IsAdded old new set gap skip (k + 8)
eight-added old mid new set gap skip k h long before added after = record {
  long = long ∙ h.long;
  before = λ j l. before j (omega arith) ∙ h.before j l;
  added = λ j l. go j l (cases_lt j k);
  after = λ j l. after j (omega arith) ∙ h.after j (omega arith);
}
  where
    go : (j : ℕ) → j < k + 8 → (j < k) ⊎ (k ≤ j) → get_or new (gap + j) 0 ≡ bit_xor (get_or old (gap + j) 0) (get_or set (skip + j) 0)
    go j l (inl m) = before (gap + j) (omega arith) ∙ h.added j m
    go j l (inr m) =
        let a : gap + k + (j - k) ≡ gap + j = omega arith in
        let b : skip + k + (j - k) ≡ skip + j = omega arith in
        sym (ap (λ n. get_or new n 0) a) ∙ added (j - k) (omega arith)
        ∙ (λ i. bit_xor (get_or mid (a i) 0) (get_or set (b i) 0)) ∙ ap (λ w. bit_xor w (get_or set (skip + j) 0)) (h.after (gap + j) (omega arith))

pub eights-preserved : goal.eights-preserved
eights-preserved c =
    let done = c.add_eight.ensures in
    record {
      within = omega (arith, c.eights-test.true, c.eights.invariant.within);
      words = eight-added c.args.row.now c.eights.row c.add_eight.new.row c.args.set.now (1 + c.min-gap.result) (1 + c.min-skip.result) c.eights.k
          c.eights.invariant.words done.long done.before done.added done.after;
    }

pub returns-clause-added : goal.returns-clause-added
returns-clause-added c = λ p from below.
    let row = c.args.row.now in
    let set = c.args.set.now in
    let gap : c.min-gap.result ≡ min (get_or set 0 0 - get_or row 0 0) (length row - 1) = c.min-gap.ensures ∙ ap (λ n. min n (length row - 1)) c.saturating_sub.ensures in
    let skip : c.min-skip.result ≡ min (get_or row 0 0 - get_or set 0 0) (length set - 1) = c.min-skip.ensures ∙ ap (λ n. min n (length set - 1)) c.saturating_sub-2.ensures in
    let last : c.words.k ≡ c.min-many.result = omega (arith, c.words-test.false, c.words.invariant.within) in
    let words = c.words.invariant.words in
    added-word row c.words.row set (1 + c.min-gap.result) (1 + c.min-skip.result) c.words.k p (ap (λ n. 1 + n) gap) (ap (λ n. 1 + n) skip) (last ∙ c.min-many.ensures) c.requires.set
    words.before words.added words.after from below
