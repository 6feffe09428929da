-- One lexeme at the front of a text.
--   first_lexeme     the first lexeme, and then what follows it
--   no_lexeme        no text has no tokens
use Rattle.std.proofs.Common.{◌≡◌, ℕ, zero, suc, ◌+◌, ◌<◌, ◌≤◌, ◌==◌, false, [], ◌∷◌, ◌++◌, Ok, Err, if◌then◌else◌, refl, ap, arith, length, take, drop}
use Rattle.std.proofs.lemmas.List.{length-drop}
use Rattle.std.proofs.lemmas.Grind.{common_steps}
use Rattle.qasm_lexer.specs.Forms.{Bytes}
use Rattle.qasm_lexer.specs.Lexemes.{form_len, lexeme_len}
use Rattle.qasm_lexer.specs.Lexed.{lexed_from, lexed_within, with_lexeme}
use Rattle.qasm_lexer.specs.declared.LexFault.TheVariants.{BadByte}

pub no_lexeme : (place : ℕ) → lexed_from place [] ≡ Ok []
unfolding lexed_from
no_lexeme place = refl

suc_not_zero : (k : ℕ) → (suc k == 0) ≡ false
suc_not_zero k = grind arith

shorter : (n k : ℕ) (b : ℕ) (t : Bytes) → 0 < k → length (b ∷ t) ≤ suc n → length (drop k (b ∷ t)) ≤ n
shorter n k b t h l = simp length-drop (omega arith)

-- more lexemes than a text has bytes change nothing
enough : (n m place : ℕ) (t : Bytes) → length t ≤ n → length t ≤ m → lexed_within n place t ≡ lexed_within m place t
enough n m place [] h l = by_nil n m
  where
    by_nil : (n m : ℕ) → lexed_within n place [] ≡ lexed_within m place []
    by_nil zero zero = refl
    by_nil zero (suc m) = refl
    by_nil (suc n) zero = refl
    by_nil (suc n) (suc m) = refl
enough zero m place (b ∷ t) h l = absurd (omega arith)
enough (suc n) zero place (b ∷ t) h l = absurd (omega arith)
enough (suc n) (suc m) place (b ∷ t) h l =
    by_len (lexeme_len (b ∷ t)) (λ k some. enough n m (place + k) (drop k (b ∷ t)) (shorter n k b t some h) (shorter m k b t some l))
  where
    by_len : (k : ℕ) → ((j : ℕ) → 0 < j → lexed_within n (place + j) (drop j (b ∷ t)) ≡ lexed_within m (place + j) (drop j (b ∷ t)))
        → (if k == 0 then Err (BadByte place) else with_lexeme place (take k (b ∷ t)) (lexed_within n (place + k) (drop k (b ∷ t))))
        ≡ (if k == 0 then Err (BadByte place) else with_lexeme place (take k (b ∷ t)) (lexed_within m (place + k) (drop k (b ∷ t))))
    by_len zero rest = refl
    by_len (suc k) rest = rw suc_not_zero (ap (λ ts. with_lexeme place (take (suc k) (b ∷ t)) ts) (rest (suc k) (omega arith)))

from_lexeme : (n k place : ℕ) (t : Bytes) → 0 < k → length (drop k t) ≤ n
    → (if k == 0 then Err (BadByte place) else with_lexeme place (take k t) (lexed_within n (place + k) (drop k t)))
    ≡ with_lexeme place (take k t) (lexed_from (place + k) (drop k t))
unfolding lexed_from
from_lexeme n zero place t some fits = absurd (omega arith)
from_lexeme n (suc k) place t some fits =
    let same = enough n (length (drop (suc k) t)) (place + suc k) (drop (suc k) t) fits (omega arith) in
    rw suc_not_zero (ap (λ ts. with_lexeme place (take (suc k) t) ts) same)

nothing_from_nothing : (k : ℕ) → lexeme_len [] ≡ k → 0 < k → ⊥
unfolding lexeme_len form_len
nothing_from_nothing k e some = omega arith

split_lexeme : (t : Bytes) (place k : ℕ) → lexeme_len t ≡ k → 0 < k
    → lexed_from place t ≡ with_lexeme place (take k t) (lexed_from (place + k) (drop k t))
unfolding lexed_from
split_lexeme [] place k e some = absurd (nothing_from_nothing k e some)
split_lexeme (b ∷ t) place k e some = rw e (from_lexeme (length t) k place (b ∷ t) some (shorter (length t) k b t some (omega arith)))

pub first_lexeme : (w rest : Bytes) (place : ℕ) → lexeme_len (w ++ rest) ≡ length w → 0 < length w
    → lexed_from place (w ++ rest) ≡ with_lexeme place w (lexed_from (place + length w) rest)
first_lexeme w rest place e some =
    let step = split_lexeme (w ++ rest) place (length w) e some in
    let front : take (length w) (w ++ rest) ≡ w = grind (arith, common_steps) in
    let back : drop (length w) (w ++ rest) ≡ rest = grind (arith, common_steps) in
    rw (front, back) at step
