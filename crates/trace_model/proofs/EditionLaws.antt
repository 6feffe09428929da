-- The edition of a trace.
--     edition-first           a trace whose first line names the first edition is of that
--     edition-named           so it is with the number of either, if a later line comes with the second
--     edition-either          there are two
--     edition-other           a number that a first line names otherwise isn't its edition
use Rattle.std.proofs.Common.{◌≡◌, ℕ, ◌⊎◌, inl, inr, ◌&&◌, Bool, true, false, cond, List, [], ◌∷◌, ◌++◌, refl, sym, ◌∙◌, ap, arith}
use Rattle.std.specs.Prelude.{codes, nat_eq}
use Rattle.std.specs.Cmp.Lexicographic.{pointwise}
use Rattle.std.specs.List.{list_any}
use Rattle.std.proofs.lemmas.Fmt.{decimal_digit}
use Rattle.rewrite_pass.specs.TraceLines.{words}
use Rattle.trace_model.specs.Lines.{edition_of, is_later}

heading : words (codes "TRACE") (1 ∷ []) ≡ codes "TRACE 1"
heading = λ z. codes "TRACE" ++ ((32 ∷ decimal_digit 1 (omega arith) z) ++ [])

second_heading : words (codes "TRACE") (2 ∷ []) ≡ codes "TRACE 2"
second_heading = λ z. codes "TRACE" ++ ((32 ∷ decimal_digit 2 (omega arith) z) ++ [])

pub edition-first : (rest : List (List ℕ)) → edition_of (words (codes "TRACE") (1 ∷ []) ∷ rest) ≡ 1
edition-first rest = ap (λ l. edition_of (l ∷ rest)) heading

edition-second : (b : Bool) (rest : List (List ℕ)) → list_any is_later rest ≡ b → edition_of (words (codes "TRACE") (2 ∷ []) ∷ rest) ≡ cond b 2 1
edition-second b rest e = ap (λ l. edition_of (l ∷ rest)) second_heading ∙ ap (λ c. cond c 2 1) e

pub edition-named : (k : ℕ) (rest : List (List ℕ)) → (k ≡ 1) ⊎ ((k ≡ 2) × (list_any is_later rest ≡ true)) → edition_of (words (codes "TRACE") (k ∷ []) ∷ rest) ≡ k
edition-named k rest (inl e) = ap (λ j. edition_of (words (codes "TRACE") (j ∷ []) ∷ rest)) e ∙ edition-first rest ∙ sym e
edition-named k rest (inr e) = ap (λ j. edition_of (words (codes "TRACE") (j ∷ []) ∷ rest)) e.0 ∙ edition-second true rest e.1 ∙ sym e.0

pub edition-either : (ls : List (List ℕ)) → (edition_of ls ≡ 1) ⊎ (edition_of ls ≡ 2)
edition-either [] = inl refl
edition-either (l ∷ ls) = go (pointwise nat_eq l (codes "TRACE 2") && list_any is_later ls)
  where
    go : (b : Bool) → (◌≡◌ {A = ℕ} (cond b 2 1) 1) ⊎ (◌≡◌ {A = ℕ} (cond b 2 1) 2)
    go true = inr refl
    go false = inl refl

pub edition-other : (ks : List ℕ) (k : ℕ) (rest : List (List ℕ)) → ks ≡ k ∷ [] → (k ≡ 1 → ⊥) → (k ≡ 2 → list_any is_later rest ≡ false) → ks ≡ edition_of (words (codes "TRACE") ks ∷ rest) ∷ [] → ⊥
edition-other ks k rest is first second e = go (edition-either (words (codes "TRACE") ks ∷ rest))
  where
    v : ℕ
    v = edition_of (words (codes "TRACE") ks ∷ rest)

    same : k ≡ v
    same = cons-first k v (sym is ∙ e)
      where
        cons-first : (a b : ℕ) → a ∷ [] ≡ b ∷ [] → a ≡ b
        cons-first a b h = cc

    go : (v ≡ 1) ⊎ (v ≡ 2) → ⊥
    go (inl f) = first (same ∙ f)
    go (inr f) =
        let two : ks ≡ 2 ∷ [] = is ∙ ap (λ j. j ∷ []) (same ∙ f) in
        let one : v ≡ 1 = ap (λ x. edition_of (words (codes "TRACE") x ∷ rest)) two ∙ edition-second false rest (second (same ∙ f)) in
        omega (arith, one, f)
