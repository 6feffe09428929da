-- A line that is read word by word.
--     IsSplit line w ks rest      line is the word w, the numbers ks and then rest, and no other words and numbers begin so
--     split-start, split-more     before the first number, and one number more
--     split-stuck, split-end      what is left begins with no number, or nothing is left
--     split-no_number, split-number       the same of what is left
--     word-read                   the word of a line, by what its first bytes spell
use Rattle.std.proofs.Common.{◌≡◌, ◌≢◌, ℕ, suc, ◌+◌, ◌^◌, ◌<◌, Bool, true, false, cond, List, [], ◌∷◌, ◌++◌, length, take, drop, refl, sym, subst, ◌∙◌, ap, arith, append_assoc, append-nil}
use Rattle.std.specs.Prelude.{nat_eq, not}
use Rattle.std.specs.Fmt.{decimal}
use Rattle.std.specs.List.{prefix_len}
use Rattle.std.proofs.lemmas.Bool.Decides.{nat_tests}
use Rattle.std.proofs.lemmas.Fmt.{decimal_injective}
use Rattle.std.proofs.lemmas.List.{take-append-drop}
use Rattle.rewrite_pass.specs.TraceLines.{words}
use Rattle.trace_model.specs.Spelling.{AreSmall, HasNoSpace}
use Rattle.std.proofs.Common.{IfSome, Option, None, Some, MatchOption, get_or, ◌==◌}
use Rattle.trace_model.specs.declared.word.Word.{Word}
use Rattle.trace_model.specs.Spelling.{spelling}
use Rattle.trace_model.proofs.SpellingLaws.{words-unique, NoSpace-decimal, Spaced, cut, spelling-plain, tail, tail-spaced}

abbrev inside : ℕ → Bool
inside b = not (nat_eq b 32)

abbrev pub size : List ℕ → ℕ
size t = prefix_len inside t

space : (b : ℕ) → nat_eq b 32 ≡ true → b ≡ 32
space b e = grind (arith, nat_tests)

no_space : (b : ℕ) → nat_eq b 32 ≡ false → b ≢ 32
no_space b e = grind (arith, nat_tests)

plain_more : (b : ℕ) (t : List ℕ) → HasNoSpace (take (size t) t) → (c : Bool) → nat_eq b 32 ≡ c → HasNoSpace (take (cond (not c) (1 + size t) 0) (b ∷ t))
plain_more b t h true e = tt
plain_more b t h false e = subst (λ m. HasNoSpace (take m (b ∷ t))) one_more (no_space b e, h)
  where
    one_more : suc (size t) ≡ 1 + size t
    one_more = omega arith

pub front-plain : (t : List ℕ) → HasNoSpace (take (size t) t)
front-plain [] = tt
front-plain (b ∷ t) = plain_more b t (front-plain t) (nat_eq b 32) refl

spaced_more : (b : ℕ) (t : List ℕ) → Spaced (drop (size t) t) → (c : Bool) → nat_eq b 32 ≡ c → Spaced (drop (cond (not c) (1 + size t) 0) (b ∷ t))
spaced_more b t h true e = space b e
spaced_more b t h false e = subst (λ m. Spaced (drop m (b ∷ t))) one_more h
  where
    one_more : suc (size t) ≡ 1 + size t
    one_more = omega arith

pub rest-spaced : (t : List ℕ) → Spaced (drop (size t) t)
rest-spaced [] = tt
rest-spaced (b ∷ t) = spaced_more b t (rest-spaced t) (nat_eq b 32) refl

pub record Left (ks rest ls : List ℕ) : Type 0 where
  pub more : List ℕ
  pub all : ls ≡ ks ++ more
  pub small : AreSmall more
  pub left : rest ≡ tail more

pub record IsSplit (line w ks rest : List ℕ) : Type 0 where
  pub plain : HasNoSpace w
  pub whole : line ≡ words w ks ++ rest
  pub spaced : Spaced rest
  pub others : (v ls : List ℕ) → HasNoSpace v → AreSmall ls → line ≡ words v ls → Left ks rest ls

pub split-start : (line : List ℕ) → IsSplit line (take (size line) line) [] (drop (size line) line)
split-start line = record {
  plain = front-plain line;
  whole = sym (take-append-drop (size line) line) ∙ ap (λ w. w ++ drop (size line) line) (sym (append-nil (take (size line) line)));
  spaced = rest-spaced line;
  others = λ v ls hv hl e.
      let c = cut (take (size line) line) v (drop (size line) line) (tail ls) (front-plain line) hv (rest-spaced line) (tail-spaced ls) (take-append-drop (size line) line ∙ e) in
      record { more = ls; all = refl; small = hl; left = c.back };
}

tail-append : (ks ls : List ℕ) → tail (ks ++ ls) ≡ tail ks ++ tail ls
tail-append [] ls = refl
tail-append (k ∷ ks) ls = ap (λ t. 32 ∷ (decimal k ++ t)) (tail-append ks ls) ∙ sym (append_assoc (32 ∷ decimal k) (tail ks) (tail ls))

-- the first of the numbers that are left
record First (piece more : List ℕ) : Type 0 where
  first : ℕ
  others : List ℕ
  shape : more ≡ first ∷ others
  low : first < 2 ^ 32
  small : AreSmall others
  digits : take (size piece) piece ≡ decimal first
  left : drop (size piece) piece ≡ tail others

first_left : (piece more : List ℕ) → AreSmall more → 32 ∷ piece ≡ tail more → First piece more
first_left piece [] h e = absurd (cc)
first_left piece (k ∷ more) h e =
    let f : piece ≡ decimal k ++ tail more = cc in
    let c = cut (take (size piece) piece) (decimal k) (drop (size piece) piece) (tail more) (front-plain piece) (NoSpace-decimal k (omega (arith, h.0))) (rest-spaced piece) (tail-spaced more)
    (take-append-drop (size piece) piece ∙ f) in
    record { first = k; others = more; shape = refl; low = h.0; small = h.1; digits = c.front; left = c.back }

pub split-stuck : (line w ks piece v ls : List ℕ) → IsSplit line w ks (32 ∷ piece) → ((n : ℕ) → n < 2 ^ 32 → take (size piece) piece ≡ decimal n → ⊥) → HasNoSpace v → AreSmall ls → line ≡ words v ls → ⊥
split-stuck line w ks piece v ls s none hv hl e =
    let l = s.others v ls hv hl e in
    let f = first_left piece l.more l.small l.left in
    none f.first f.low f.digits

pub split-more : (line w ks piece : List ℕ) (n : ℕ) → IsSplit line w ks (32 ∷ piece) → n < 2 ^ 32 → take (size piece) piece ≡ decimal n → IsSplit line w (ks ++ n ∷ []) (drop (size piece) piece)
split-more line w ks piece n s small is = record {
  plain = s.plain;
  whole = s.whole ∙ append_assoc w (tail ks) (32 ∷ piece) ∙ ap (λ t. w ++ t) parts ∙ sym (append_assoc w (tail (ks ++ n ∷ [])) rest);
  spaced = rest-spaced piece;
  others = λ v ls hv hl e.
      let l = s.others v ls hv hl e in
      let f = first_left piece l.more l.small l.left in
      let same : f.first ≡ n = decimal_injective f.first n (omega (arith, f.low)) (omega (arith, small)) (sym f.digits ∙ is) in
      record {
        more = f.others;
        all = l.all ∙ ap (λ t. ks ++ t) (f.shape ∙ (λ i. same i ∷ f.others)) ∙ sym (append_assoc ks (n ∷ []) f.others);
        small = f.small;
        left = f.left;
      };
}
  where
    rest : List ℕ
    rest = drop (size piece) piece

    parts : tail ks ++ 32 ∷ piece ≡ tail (ks ++ n ∷ []) ++ rest
    parts =
        ap (λ t. tail ks ++ 32 ∷ t) (sym (take-append-drop (size piece) piece) ∙ ap (λ d. d ++ rest) (is ∙ sym (append-nil (decimal n))))
        ∙ sym (append_assoc (tail ks) (tail (n ∷ [])) rest)
        ∙ ap (λ t. t ++ rest) (sym (tail-append ks (n ∷ [])))

pub split-end : (line w ks : List ℕ) → IsSplit line w ks [] → line ≡ words w ks
split-end line w ks s = s.whole ∙ append-nil (words w ks)

pub split-no_number : (line w ks rest v ls : List ℕ) → IsSplit line w ks rest → 0 < length rest → ((n : ℕ) → n < 2 ^ 32 → take (size (drop 1 rest)) (drop 1 rest) ≡ decimal n → ⊥) → HasNoSpace v → AreSmall ls → line ≡ words v ls → ⊥
split-no_number line w ks [] v ls s lt none hv hl e = absurd (omega (arith, lt))
split-no_number line w ks (b ∷ p) v ls s lt none hv hl e = split-stuck line w ks p v ls (subst (λ x. IsSplit line w ks (x ∷ p)) s.spaced s) none hv hl e

pub split-number : (line w ks rest r : List ℕ) (n : ℕ) → IsSplit line w ks rest → 0 < length rest → n < 2 ^ 32 → take (size (drop 1 rest)) (drop 1 rest) ≡ decimal n → r ≡ drop (size (drop 1 rest)) (drop 1 rest) → IsSplit line w (ks ++ n ∷ []) r
split-number line w ks [] r n s lt small is e = absurd (omega (arith, lt))
split-number line w ks (b ∷ p) r n s lt small is e = subst (λ x. IsSplit line w (ks ++ n ∷ []) x) (sym e) (split-more line w ks p n (subst (λ x. IsSplit line w ks (x ∷ p)) s.spaced s) small is)

-- ---- for the code
pub filled : (b : Bool) (n : ℕ) → b ≡ (n == 0) → b ≡ false → 0 < n
filled b n e f = grind (arith, nat_tests)

pub some-of : {A : Type 0} (N : Type 0) (o : Option A) (x : A) (f : A → Type 0) → o ≡ Some x → MatchOption o N f → f x
some-of N o x f e h = subst (λ p. MatchOption p N f) e h

pub none-of : {A : Type 0} (N : Type 0) (o : Option A) (f : A → Type 0) → o ≡ None → MatchOption o N f → N
none-of N o f e h = subst (λ p. MatchOption p N f) e h

pub if-some : {A : Type 0} (o : Option A) (x : A) (f : A → Type 0) → o ≡ Some x → IfSome o f → f x
if-some o x f e h = subst (λ p. IfSome p f) e h

pub items-small : (ks : List ℕ) → ((i d : ℕ) → i < length ks → get_or ks i d < 2 ^ 32) → AreSmall ks
items-small [] h = tt
items-small (k ∷ ks) h = (h 0 0 (omega arith), items-small ks (λ i d lt. h (suc i) d (omega (arith, lt))))

pub word-read : (line items bytes : List ℕ) (o : Option Word) → HasNoSpace bytes → line ≡ words bytes items → AreSmall items → MatchOption o ((w : Word) → bytes ≡ spelling w → ⊥) (λ w. bytes ≡ spelling w) →
    MatchOption o ((w : Word) (ks : List ℕ) → AreSmall ks → line ≡ words (spelling w) ks → ⊥) (λ w. line ≡ words (spelling w) items)
word-read line items bytes None plain whole small h = λ w ks hk e. h w (words-unique bytes (spelling w) items ks plain (spelling-plain w) small hk (sym whole ∙ e)).0
word-read line items bytes (Some w) plain whole small h = whole ∙ ap (λ b. words b items) h
