-- The row is the place, zeros, words of the set, and zeros.
use Rattle.std.proofs.Common.{◌≡◌, ℕ, ◌+◌, ◌-◌, ◌<◌, ◌≤◌, List, [], ◌∷◌, ◌++◌, min, length, get_or, refl, ◌∙◌, ap, arith}
use Rattle.std.specs.Prelude.{slice_range}
use Rattle.std.proofs.lemmas.Simd.{get_or-chunk, length-chunk}
use Rattle.path_parity.proofs.SetLaws.{copied-word}
use Rattle.path_parity.proofs.packed.write_words.Goals as goal

pub returns-clause-words : goal.returns-clause-words
returns-clause-words c = λ p from below.
    let set = c.args.set.now in
    let start = c.args.start in
    let size = c.args.size in
    let gap = c.min-gap.result in
    let skip = 1 + c.min-skip.result in
    let many = c.min-many.result in
    let row = c.resize-2.new.self.items in
    let g : gap ≡ min (get_or set 0 0 - start) size = c.min-gap.ensures ∙ ap (λ n. min n size) c.saturating_sub.ensures in
    let s : skip ≡ 1 + min (start - get_or set 0 0) (length set - 1) = ap (λ n. 1 + n) (c.min-skip.ensures ∙ ap (λ n. min n (length set - 1)) c.saturating_sub-2.ensures) in
    let alone : c.push.new.self.items ≡ start ∷ [] = c.in_ok-push.ensures.items ∙ ap (λ xs. xs ++ start ∷ []) (c.in_ok-reserve.ensures.items ∙ c.clear.ensures.items) in
    let pushed : c.push.new.self.len ≡ 1 = c.push.new.self.ok.0 ∙ ap (λ (xs : List ℕ). length xs) alone in
    let long : c.resize.new.self.len ≡ gap + 1 = c.in_ok-resize.ensures.len in
    let part = slice_range set skip (skip + many) in
    let more : length part ≡ many = length-chunk skip (skip + many - skip) set (omega (arith, s, c.min-many.ensures, c.requires.some)) ∙ omega arith in
    let longer : c.extend_from_slice.new.self.len ≡ gap + 1 + many = c.in_ok-extend_from_slice.ensures.len ∙ omega (arith, long, more) in
    let last = c.in_ok-resize-2.ensures.by_index in
    let then = c.in_ok-extend_from_slice.ensures.by_index in
    let front = c.in_ok-resize.ensures.by_index in
    let room : gap + many ≤ size = omega (arith, g, c.min-many.ensures) in
    let first : get_or row 0 0 ≡ start = last.0 0 0 (omega arith) (omega (arith, longer)) ∙ then.0 0 0 (omega (arith, long)) ∙ front.0 0 0 (omega arith) (omega (arith, pushed)) ∙ ap (λ xs. get_or xs 0 0) alone in
    let before : (k : ℕ) → 1 ≤ k → k < gap + 1 → get_or row k 0 ≡ 0 = λ k a b.
    last.0 k 0 (omega (arith, room)) (omega (arith, longer)) ∙ then.0 k 0 (omega (arith, long)) ∙ front.1 k 0 refl (omega (arith, pushed)) b in
    let copied : (j : ℕ) → j < many → get_or row (gap + 1 + j) 0 ≡ get_or set (skip + j) 0 = λ j l.
    let e : gap + 1 + j - c.resize.new.self.len ≡ j = omega (arith, long) in
    last.0 (gap + 1 + j) 0 (omega (arith, room)) (omega (arith, longer)) ∙ then.1 (gap + 1 + j) 0 refl (omega (arith, long)) ∙ ap (λ k. get_or part k 0) e
    ∙ get_or-chunk skip (skip + many - skip) set j 0 (omega arith) in
    let behind : (k : ℕ) → gap + 1 + many ≤ k → k < size + 1 → get_or row k 0 ≡ 0 = λ k a b. last.1 k 0 refl (omega (arith, longer)) b in
    copied-word set row start size gap skip many p g s c.min-many.ensures c.requires.some first before copied behind from below
