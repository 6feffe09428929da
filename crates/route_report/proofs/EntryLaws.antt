-- The line of an entry, number by number.
--   line_joined  the line that is pushed together
use Rattle.std.proofs.Common.{◌≡◌, List, ℕ, [], ◌∷◌, ◌++◌, ap, ◌∙◌, append_assoc}

part_joined : (old new text rest : List ℕ) → new ≡ old ++ (text ++ 32 ∷ []) → new ++ rest ≡ old ++ (text ++ 32 ∷ rest)
part_joined old new text rest h = ap (λ x. x ++ rest) h ∙ simp append_assoc

pub line_joined : (a b c d e l0 l1 l2 l3 l4 l5 l6 : List ℕ) → l0 ≡ [] → l1 ≡ l0 ++ (a ++ 32 ∷ []) → l2 ≡ l1 ++ (b ++ 32 ∷ []) → l3 ≡ l2 ++ (c ++ 32 ∷ []) →
    l4 ≡ l3 ++ (d ++ 32 ∷ []) → l5 ≡ l4 ++ e → l6 ≡ l5 ++ 10 ∷ [] → l6 ≡ a ++ 32 ∷ (b ++ 32 ∷ (c ++ 32 ∷ (d ++ 32 ∷ (e ++ 10 ∷ []))))
line_joined a b c d e l0 l1 l2 l3 l4 l5 l6 h0 h1 h2 h3 h4 h5 h6 =
    h6 ∙ ap (λ x. x ++ 10 ∷ []) h5 ∙ append_assoc l4 e (10 ∷ [])
    ∙ part_joined l3 l4 d (e ++ 10 ∷ []) h4
    ∙ part_joined l2 l3 c (d ++ 32 ∷ (e ++ 10 ∷ [])) h3
    ∙ part_joined l1 l2 b (c ++ 32 ∷ (d ++ 32 ∷ (e ++ 10 ∷ []))) h2
    ∙ part_joined l0 l1 a (b ++ 32 ∷ (c ++ 32 ∷ (d ++ 32 ∷ (e ++ 10 ∷ [])))) h1
    ∙ ap (λ x. x ++ (a ++ 32 ∷ (b ++ 32 ∷ (c ++ 32 ∷ (d ++ 32 ∷ (e ++ 10 ∷ [])))))) h0
