-- The first line of a text, by where its first line break is.
--     lines-broken        there is a line break
--     lines-whole         there is none
use Rattle.std.proofs.Common.{◌≡◌, ℕ, suc, ◌+◌, ◌<◌, Bool, true, false, cond, List, [], ◌∷◌, length, take, drop, refl, sym, ◌∙◌, ap, arith}
use Rattle.std.specs.Prelude.{nat_eq, not}
use Rattle.std.specs.List.{prefix_len}
use Rattle.trace_text.specs.Texts.{begun, lines_of}

abbrev inside : ℕ → Bool
inside b = not (nat_eq b 10)

abbrev size : List ℕ → ℕ
size t = prefix_len inside t

further : (b : ℕ) (t : List ℕ) (m k : ℕ) → k ≡ suc m → lines_of t ≡ take m t ∷ lines_of (drop (m + 1) t) → begun b (lines_of t) ≡ take k (b ∷ t) ∷ lines_of (drop (k + 1) (b ∷ t))
further b t m k e h = ap (begun b) h ∙ (λ i. take (sym e i) (b ∷ t) ∷ lines_of (drop (next i) (b ∷ t)))
  where
    next : suc (m + 1) ≡ k + 1
    next = omega (arith, e)

broken : (b : ℕ) (t : List ℕ) → (size t < length t → lines_of t ≡ take (size t) t ∷ lines_of (drop (size t + 1) t)) → (c : Bool) → cond (not c) (1 + size t) 0 < suc (length t) →
    cond c ([] ∷ lines_of t) (begun b (lines_of t)) ≡ take (cond (not c) (1 + size t) 0) (b ∷ t) ∷ lines_of (drop (cond (not c) (1 + size t) 0 + 1) (b ∷ t))
broken b t ih true l = refl
broken b t ih false l = further b t (size t) (1 + size t) (omega arith) (ih (omega (arith, l)))

pub lines-broken : (t : List ℕ) → size t < length t → lines_of t ≡ take (size t) t ∷ lines_of (drop (size t + 1) t)
lines-broken [] lt = absurd (omega (arith, lt))
lines-broken (b ∷ t) lt = broken b t (lines-broken t) (nat_eq b 10) lt

whole : (b d : ℕ) (t : List ℕ) → (size (d ∷ t) ≡ length (d ∷ t) → 0 < length (d ∷ t) → lines_of (d ∷ t) ≡ (d ∷ t) ∷ []) → (c : Bool) → cond (not c) (1 + size (d ∷ t)) 0 ≡ suc (suc (length t)) →
    cond c ([] ∷ lines_of (d ∷ t)) (begun b (lines_of (d ∷ t))) ≡ (b ∷ (d ∷ t)) ∷ []
whole b d t ih true f = absurd (omega (arith, f))
whole b d t ih false f = ap (begun b) (ih (omega (arith, f)) (omega arith))

alone : (b : ℕ) (c : Bool) → cond (not c) (1 + 0) 0 ≡ 1 → cond c ([] ∷ []) (begun b []) ≡ (b ∷ []) ∷ []
alone b true f = absurd (omega (arith, f))
alone b false f = refl

pub lines-whole : (t : List ℕ) → size t ≡ length t → 0 < length t → lines_of t ≡ t ∷ []
lines-whole [] e lt = absurd (omega (arith, lt))
lines-whole (b ∷ []) e lt = alone b (nat_eq b 10) e
lines-whole (b ∷ (d ∷ t)) e lt = whole b d t (lines-whole (d ∷ t)) (nat_eq b 10) e

pub ruleset first_lines = (lines-broken, lines-whole)
