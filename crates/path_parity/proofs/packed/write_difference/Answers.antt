-- The rows differ between the two places alone, and there the sum has the words of both.
use Rattle.std.proofs.Common.{◌≡◌, ℕ, ◌+◌, ◌-◌, ◌^◌, ◌<◌, ◌≤◌, List, bit_xor, length, get_or, sym, ◌∙◌, ap, arith}
use Rattle.std.proofs.lemmas.Result.{on_ok_weaker}
use Rattle.path_parity.specs.Sets.{IsPacked, set_of, word_at}
use Rattle.path_parity.proofs.SetLaws.{IsBetween, IsSum, IsSum-other, IsPacked-wide, between-none, between-packed, between-set, IsSum-words}
use Rattle.path_parity.proofs.packed.write_difference.Goals as goal
use Rattle.path_parity.proofs.packed.write_difference.Goals.{then-front-test+else-word, else-front-test, then-back-test+else-word-2, else-back-test}

pub returns-then-start-end-clause-set : goal.returns-then-start-end-clause-set
returns-then-start-end-clause-set c =
    let xs = c.args.xs.now in
    let ys = c.args.ys.now in
    ap set_of c.clear.ensures.items ∙ between-none xs ys c.front.start c.back.end (IsPacked-wide xs c.requires.left) (IsPacked-wide ys c.requires.right) c.back.invariant.between (omega arith)

-- what is written is the sum, and packed
abbrev IsWritten : List ℕ → List ℕ → List ℕ → ℕ → ℕ → Type 0
IsWritten xs ys zs a n = (length zs ≡ n + 1) × (get_or zs 0 0 ≡ a) × ((p : ℕ) → a ≤ p → p < a + n → word_at zs p ≡ bit_xor (word_at xs p) (word_at ys p))

sum : (xs ys zs : List ℕ) (a b : ℕ) → IsPacked xs → IsPacked ys → a ≤ b → IsWritten xs ys zs a (b - a) → IsSum xs ys zs a b
sum xs ys zs a b f g le w = IsSum-words xs ys zs a b (IsPacked-wide xs f) (IsPacked-wide ys g) le w.0 w.1 (λ p c d. w.2 p c (omega arith))

set : (xs ys zs : List ℕ) (a b : ℕ) → IsPacked xs → IsPacked ys → IsBetween xs ys a b → IsSum xs ys zs a b → set_of zs ≡ bit_xor (set_of xs) (set_of ys)
set xs ys zs a b f g between s = between-set xs ys zs a b (IsPacked-wide xs f) (IsPacked-wide ys g) s.wide between s.first s.end s.words

packed : (xs ys zs : List ℕ) (a b : ℕ) → a < b → b ≤ 2 ^ 58 → (word_at xs a ≡ word_at ys a → ⊥) → (word_at xs (b - 1) ≡ word_at ys (b - 1) → ⊥) → IsSum xs ys zs a b → IsPacked zs
packed xs ys zs a b l m front back s = between-packed xs ys zs a b s.wide s.first s.end l m s.words front back

pub returns-then-xs-ys-clause-set : goal.returns-then-xs-ys-clause-set
returns-then-xs-ys-clause-set c =
    let xs = c.args.xs.now in
    let ys = c.args.ys.now in
    let zs = c.write_between.new.row.items in
    on_ok_weaker c.write_between.result (λ w. set xs ys zs c.front.start c.back.end c.requires.left c.requires.right c.back.invariant.between
    (IsSum-other ys xs zs c.front.start c.back.end (sum ys xs zs c.front.start c.back.end c.requires.right c.requires.left c.back.invariant.order w))) c.write_between.ensures.sums

pub returns-then-xs-ys-clause-packed : goal.returns-then-xs-ys-clause-packed
returns-then-xs-ys-clause-packed c =
    let xs = c.args.xs.now in
    let ys = c.args.ys.now in
    let a = c.front.start in
    let b = c.back.end in
    let front : word_at xs a ≡ word_at ys a → ⊥ = elim c.front-test.branch [
      | then-front-test+else-word w ↦ λ e. w.if-word.false (w.word.ensures ∙ e ∙ sym w.word-in-front.ensures)
      | else-front-test w ↦ λ e. absurd (omega arith)
    ] in
    let back : word_at xs (b - 1) ≡ word_at ys (b - 1) → ⊥ = elim c.back-test.branch [
      | then-back-test+else-word-2 w ↦ λ e. w.if-word-2.false (w.word-in-back.ensures ∙ e ∙ sym w.word-in-back-2.ensures)
      | else-back-test w ↦ λ e. absurd (omega arith)
    ] in
    on_ok_weaker c.write_between.result (λ w. packed xs ys c.write_between.new.row.items a b (omega arith) (omega arith) front back
    (IsSum-other ys xs c.write_between.new.row.items a b (sum ys xs c.write_between.new.row.items a b c.requires.right c.requires.left c.back.invariant.order w))) c.write_between.ensures.sums

pub returns-clause-set : goal.returns-clause-set
returns-clause-set c =
    let xs = c.args.xs.now in
    let ys = c.args.ys.now in
    on_ok_weaker c.write_between-2.result (λ w. set xs ys c.write_between-2.new.row.items c.front.start c.back.end c.requires.left c.requires.right c.back.invariant.between
    (sum xs ys c.write_between-2.new.row.items c.front.start c.back.end c.requires.left c.requires.right c.back.invariant.order w)) c.write_between-2.ensures.sums

pub returns-clause-packed : goal.returns-clause-packed
returns-clause-packed c =
    let xs = c.args.xs.now in
    let ys = c.args.ys.now in
    let a = c.front.start in
    let b = c.back.end in
    let front : word_at xs a ≡ word_at ys a → ⊥ = elim c.front-test.branch [
      | then-front-test+else-word w ↦ λ e. w.if-word.false (w.word.ensures ∙ e ∙ sym w.word-in-front.ensures)
      | else-front-test w ↦ λ e. absurd (omega arith)
    ] in
    let back : word_at xs (b - 1) ≡ word_at ys (b - 1) → ⊥ = elim c.back-test.branch [
      | then-back-test+else-word-2 w ↦ λ e. w.if-word-2.false (w.word-in-back.ensures ∙ e ∙ sym w.word-in-back-2.ensures)
      | else-back-test w ↦ λ e. absurd (omega arith)
    ] in
    on_ok_weaker c.write_between-2.result (λ w. packed xs ys c.write_between-2.new.row.items a b (omega arith) (omega arith) front back
    (sum xs ys c.write_between-2.new.row.items a b c.requires.left c.requires.right c.back.invariant.order w)) c.write_between-2.ensures.sums
