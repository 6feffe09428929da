-- The augmentation: a row comes in by a chain of exchanges, and all blocks stay independent.
-- Here blocks are a function from the number of a block to its places, and r gives the row of a place.
--   Free-put_in, Free-taken_out    a row that isn't spanned goes in; a row goes out
--   All_in, Lacks, Uses            places in a list; a list without a place; with it once
--   sum-without, sum-using         the row that places sum to, once a place is taken out
--   Free-other                     a row of independent rows isn't spanned by the others
--   Link, Linked                   a chain, from its end to its beginning; no link's place is used by an earlier one
--   gained, lost                   the blocks with a place put in, taken out
--   linked-moved                   the rest of a chain stays linked after its last exchange
--   room-left, lost-here           the block that a place left has room for its taker
use Rattle.std.proofs.Common.{◌≡◌, ℕ, Bool, true, false, cond, List, [], ◌∷◌, map, refl, sym, ap, ◌∙◌, ◌⊎◌, inl, inr}
use Rattle.std.specs.Prelude.{bit_xor, nat_eq, nat_lt}
use Rattle.std.specs.Int.Bits.{xor_assoc, xor_self, xor_zero_r}
use Rattle.std.proofs.lemmas.Nat.{xor_comm}
use Rattle.std.proofs.lemmas.Bool.{eqb-true, eqb-false, eq-eqb, ne_eqb}
use Rattle.gf2_linear.specs.Rows.{row_sum}
use Rattle.gf2_linear.proofs.Xor.{xor_again, xor_exchange}
use Rattle.gf2_linear.proofs.Spans.{Span, All_span, Free, Span-zero, Span-same, Span-first, Span-add, Span-within, All_span-more, All_span-self, All_span-within}
use Rattle.matroid_partition.specs.Places.{Has, put_in, taken_out}

-- ---- one row in, one row out
all_span-put_in : (r : ℕ → ℕ) (x : ℕ) (ps : List ℕ) → All_span (r x ∷ map r ps) (map r (put_in x ps))
all_span-put_in r x [] = (Span-first (r x) [], tt)
all_span-put_in r x (p ∷ ps) = go (nat_lt x p) (all_span-put_in r x ps)
  where
    go : (b : Bool) → All_span (r x ∷ map r ps) (map r (put_in x ps))
        → All_span (r x ∷ (r p ∷ map r ps)) (map r (cond b (x ∷ (p ∷ ps)) (p ∷ put_in x ps)))
    go true h = All_span-self (r x ∷ (r p ∷ map r ps))
    go false h = (
      inl (Span-first (r p) (map r ps)),
      All_span-within (r x ∷ (r p ∷ map r ps)) (r x ∷ map r ps) (map r (put_in x ps))
          (Span-first (r x) (r p ∷ map r ps), All_span-more (r x) (r p ∷ map r ps) (map r ps) (All_span-more (r p) (map r ps) (map r ps) (All_span-self (map r ps)))) h,
    )

pub Free-put_in : (r : ℕ → ℕ) (x : ℕ) (ps : List ℕ) → Free (map r ps) → (Span (map r ps) (r x) → ⊥) → Free (map r (put_in x ps))
Free-put_in r x [] f n = (n, tt)
Free-put_in r x (p ∷ ps) f n = go (nat_lt x p) (Free-put_in r x ps f.1 (λ s. n (inl s)))
  where
    go : (b : Bool) → Free (map r (put_in x ps)) → Free (map r (cond b (x ∷ (p ∷ ps)) (p ∷ put_in x ps)))
    go true h = (n, f)
    go false h = (
      (λ s. elim (Span-within (r x ∷ map r ps) (map r (put_in x ps)) (r p) (all_span-put_in r x ps) s) [
        | inl a ↦ f.0 a
        | inr b ↦ n (inr (Span-same (map r ps) (bit_xor (r x) (r p)) (bit_xor (r p) (r x)) (xor_comm (r x) (r p)) b))
      ]),
      h,
    )

pub taken_out-all_span : (r : ℕ → ℕ) (x : ℕ) (ps : List ℕ) → All_span (map r ps) (map r (taken_out x ps))
taken_out-all_span r x [] = tt
taken_out-all_span r x (p ∷ ps) = go (nat_eq p x) (All_span-more (r p) (map r ps) (map r (taken_out x ps)) (taken_out-all_span r x ps))
  where
    go : (b : Bool) → All_span (r p ∷ map r ps) (map r (taken_out x ps)) → All_span (r p ∷ map r ps) (map r (cond b (taken_out x ps) (p ∷ taken_out x ps)))
    go true h = h
    go false h = (Span-first (r p) (map r ps), h)

pub Free-taken_out : (r : ℕ → ℕ) (x : ℕ) (ps : List ℕ) → Free (map r ps) → Free (map r (taken_out x ps))
Free-taken_out r x [] f = tt
Free-taken_out r x (p ∷ ps) f = go (nat_eq p x) (Free-taken_out r x ps f.1)
  where
    go : (b : Bool) → Free (map r (taken_out x ps)) → Free (map r (cond b (taken_out x ps) (p ∷ taken_out x ps)))
    go true h = h
    go false h = ((λ s. f.0 (Span-within (map r ps) (map r (taken_out x ps)) (r p) (taken_out-all_span r x ps) s)), h)

-- ---- places in lists
abbrev pub All_in : List ℕ → List ℕ → Type 0
All_in ps [] = Unit {0}
All_in ps (e ∷ es) = Has ps e × All_in ps es

pub Has-put_in_old : (x y : ℕ) (ps : List ℕ) → Has ps y → Has (put_in x ps) y
Has-put_in_old x y [] h = absurd h
Has-put_in_old x y (p ∷ ps) h = go (nat_lt x p) h (Has-put_in_old x y ps)
  where
    go : (b : Bool) → (p ≡ y) ⊎ Has ps y → (Has ps y → Has (put_in x ps) y) → Has (cond b (x ∷ (p ∷ ps)) (p ∷ put_in x ps)) y
    go true h k = inr h
    go false h k = elim h [ inl e ↦ inl e | inr t ↦ inr (k t) ]

pub Has-taken_out : (x y : ℕ) (ps : List ℕ) → Has ps y → (y ≡ x → ⊥) → Has (taken_out x ps) y
Has-taken_out x y [] h n = absurd h
Has-taken_out x y (p ∷ ps) h n = go (nat_eq p x) refl h (λ k. Has-taken_out x y ps k n)
  where
    go : (b : Bool) → nat_eq p x ≡ b → (p ≡ y) ⊎ Has ps y → (Has ps y → Has (taken_out x ps) y) → Has (cond b (taken_out x ps) (p ∷ taken_out x ps)) y
    go true e h k = elim h [ inl q ↦ absurd (n (sym q ∙ eqb-true p x e)) | inr t ↦ k t ]
    go false e h k = elim h [ inl q ↦ inl q | inr t ↦ inr (k t) ]

-- the row of a place of the list is spanned
pub Has-span : (r : ℕ → ℕ) (y : ℕ) (ps : List ℕ) → Has ps y → Span (map r ps) (r y)
Has-span r y [] h = absurd h
Has-span r y (p ∷ ps) h = elim h [
  | inl e ↦ Span-same (r p ∷ map r ps) (r p) (r y) (ap r e) (Span-first (r p) (map r ps))
  | inr t ↦ inl (Has-span r y ps t)
]

abbrev pub Lacks : ℕ → List ℕ → Type 0
Lacks y [] = Unit {0}
Lacks y (e ∷ es) = (e ≡ y → ⊥) × Lacks y es

-- places that use y once: their sum is y's row and a sum of the others
abbrev pub Uses : ℕ → List ℕ → Type 0
Uses y [] = ⊥
Uses y (e ∷ es) = ((e ≡ y) × Lacks y es) ⊎ ((e ≡ y → ⊥) × Uses y es)

-- sums of places that are in a block, without one that they lack
pub sum-without : (r : ℕ → ℕ) (y : ℕ) (es ps : List ℕ) → All_in ps es → Lacks y es → Span (map r (taken_out y ps)) (row_sum (map r es))
unfolding row_sum
sum-without r y [] ps a l = Span-zero (map r (taken_out y ps))
sum-without r y (e ∷ es) ps a l =
    Span-add (map r (taken_out y ps)) (r e) (row_sum (map r es)) (Has-span r e (taken_out y ps) (Has-taken_out y e ps a.0 l.0)) (sum-without r y es ps a.1 l.1)

-- the same where they use it
pub sum-using : (r : ℕ → ℕ) (y : ℕ) (es ps : List ℕ) → All_in ps es → Uses y es → Span (map r (taken_out y ps)) (bit_xor (r y) (row_sum (map r es)))
unfolding row_sum
sum-using r y [] ps a u = absurd u
sum-using r y (e ∷ es) ps a u = elim u [
  | inl h ↦ Span-same (map r (taken_out y ps)) (row_sum (map r es)) (bit_xor (r y) (bit_xor (r e) (row_sum (map r es))))
      (sym (ap (λ k. bit_xor (r y) (bit_xor k (row_sum (map r es)))) (ap r h.0) ∙ xor_again (r y) (row_sum (map r es))))
      (sum-without r y es ps a.1 h.1)
  | inr h ↦ Span-same (map r (taken_out y ps)) (bit_xor (r e) (bit_xor (r y) (row_sum (map r es)))) (bit_xor (r y) (bit_xor (r e) (row_sum (map r es))))
      (xor_exchange (r e) (r y) (row_sum (map r es)))
      (Span-add (map r (taken_out y ps)) (r e) (bit_xor (r y) (row_sum (map r es))) (Has-span r e (taken_out y ps) (Has-taken_out y e ps a.0 h.0)) (sum-using r y es ps a.1 h.1))
]

-- a row of independent rows isn't spanned by the others
pub Free-other : (r : ℕ → ℕ) (y : ℕ) (ps : List ℕ) → Has ps y → Free (map r ps) → Span (map r (taken_out y ps)) (r y) → ⊥
Free-other r y [] h f s = absurd h
Free-other r y (p ∷ ps) h f s = go (nat_eq p y) refl (λ k t. Free-other r y ps k f.1 t) s
  where
    go : (b : Bool) → nat_eq p y ≡ b → (Has ps y → Span (map r (taken_out y ps)) (r y) → ⊥) → Span (map r (cond b (taken_out y ps) (p ∷ taken_out y ps))) (r y) → ⊥
    go true e rec s = f.0 (Span-within (map r ps) (map r (taken_out y ps)) (r p) (taken_out-all_span r y ps)
        (Span-same (map r (taken_out y ps)) (r y) (r p) (ap r (sym (eqb-true p y e))) s))
    go false e rec s =
        let there : Has ps y = elim h [ inl q ↦ absurd (eqb-false p y e q) | inr t ↦ t ] in
        elim s [
          | inl a ↦ rec there a
          | inr b ↦ f.0 (Span-same (map r ps) (bit_xor (bit_xor (r p) (r y)) (r y)) (r p)
              (xor_comm (bit_xor (r p) (r y)) (r y) ∙ ap (bit_xor (r y)) (xor_comm (r p) (r y)) ∙ xor_again (r y) (r p))
              (Span-add (map r ps) (bit_xor (r p) (r y)) (r y) (Span-within (map r ps) (map r (taken_out y ps)) (bit_xor (r p) (r y)) (taken_out-all_span r y ps) b) (Has-span r y ps there)))
        ]

-- ---- chains
-- a place, the block that it leaves, and the places of this block that sum to the row which takes its place
pub record Link : Type 0 where
  pub place : ℕ
  pub home : ℕ
  pub sum : List ℕ

-- the row that takes the place of the first node of a chain: that of the next node, or at last the new one
abbrev pub taker : ℕ → List Link → ℕ
taker new [] = new
taker new (n ∷ chain) = n.place

-- no earlier sum has the place
abbrev pub Unused : ℕ → List Link → Type 0
Unused x [] = Unit {0}
Unused x (n ∷ chain) = Lacks x n.sum × Unused x chain

-- the block that the taker leaves is another one
abbrev pub Apart : ℕ → List Link → Type 0
Apart b [] = Unit {0}
Apart b (n ∷ chain) = n.home ≡ b → ⊥

-- From the end to the beginning: each node's sum stands in its block, uses its place and sums to its taker's row.
abbrev pub Linked : (ℕ → ℕ) → (ℕ → List ℕ) → ℕ → List Link → Type 0
Linked r B new [] = Unit {0}
Linked r B new (n ∷ chain) =
    All_in (B n.home) n.sum × Uses n.place n.sum × (row_sum (map r n.sum) ≡ r (taker new chain)) × Has (B n.home) n.place
    × Unused n.place chain × Apart n.home chain × Linked r B new chain

-- the blocks with x put into c and, of the block h, y taken out
unfoldable pub gained : (ℕ → List ℕ) → ℕ → ℕ → ℕ → List ℕ
gained B c x b = cond (nat_eq b c) (put_in x (B b)) (B b)

unfoldable pub lost : (ℕ → List ℕ) → ℕ → ℕ → ℕ → List ℕ
lost B h y b = cond (nat_eq b h) (taken_out y (B b)) (B b)

-- what is in the blocks is still there, but for the place taken out
pub Has-moved : (B : ℕ → List ℕ) (c x h : ℕ) (b y : ℕ) → Has (B b) y → (y ≡ x → ⊥) → Has (lost (gained B c x) h x b) y
unfolding gained lost
Has-moved B c x h b y k n = go (nat_eq b c) (nat_eq b h)
  where
    first : (t : Bool) → Has (cond t (put_in x (B b)) (B b)) y
    first true = Has-put_in_old x y (B b) k
    first false = k

    go : (t u : Bool) → Has (cond u (taken_out x (cond t (put_in x (B b)) (B b))) (cond t (put_in x (B b)) (B b))) y
    go t true = Has-taken_out x y (cond t (put_in x (B b)) (B b)) (first t) n
    go t false = first t

all_in-moved : (B : ℕ → List ℕ) (c x h b : ℕ) (es : List ℕ) → All_in (B b) es → Lacks x es → All_in (lost (gained B c x) h x b) es
all_in-moved B c x h b [] a l = tt
all_in-moved B c x h b (e ∷ es) a l = (Has-moved B c x h b e a.0 l.0, all_in-moved B c x h b es a.1 l.1)

lacks-uses : (x y : ℕ) (es : List ℕ) → Lacks x es → Uses y es → y ≡ x → ⊥
lacks-uses x y [] l u e = u
lacks-uses x y (d ∷ es) l u e = elim u [ inl h ↦ l.0 (h.0 ∙ e) | inr h ↦ lacks-uses x y es l.1 h.1 e ]

-- the rest of a chain stays linked after its last exchange
pub linked-moved : (r : ℕ → ℕ) (B : ℕ → List ℕ) (new c x h : ℕ) (chain : List Link) → Linked r B new chain → Unused x chain
    → Linked r (lost (gained B c x) h x) new chain
linked-moved r B new c x h [] l u = tt
linked-moved r B new c x h (n ∷ chain) l u = (
  all_in-moved B c x h n.home n.sum l.0 u.0,
  l.1,
  l.2,
  Has-moved B c x h n.home n.place l.3 (lacks-uses x n.place n.sum u.0 l.1),
  l.4,
  l.5,
  linked-moved r B new c x h chain l.6 u.1,
)

-- in the block that a place left, its taker is no sum of the others
pub room-left : (r : ℕ → ℕ) (B : ℕ → List ℕ) (n : Link) (t : ℕ) → Free (map r (B n.home)) → All_in (B n.home) n.sum → Uses n.place n.sum
    → row_sum (map r n.sum) ≡ r t → Has (B n.home) n.place → Span (map r (taken_out n.place (B n.home))) (r t) → ⊥
room-left r B n t f a u e h s =
    Free-other r n.place (B n.home) h f
    (Span-same (map r (taken_out n.place (B n.home))) (bit_xor (bit_xor (r n.place) (row_sum (map r n.sum))) (r t)) (r n.place)
    (ap (λ k. bit_xor (bit_xor (r n.place) k) (r t)) e ∙ xor_assoc (r n.place) (r t) (r t) ∙ ap (bit_xor (r n.place)) (xor_self (r t)) ∙ xor_zero_r (r n.place))
    (Span-add (map r (taken_out n.place (B n.home))) (bit_xor (r n.place) (row_sum (map r n.sum))) (r t) (sum-using r n.place n.sum (B n.home) a u) s))

pub lost-here : (B : ℕ → List ℕ) (c x h : ℕ) → (h ≡ c → ⊥) → lost (gained B c x) h x h ≡ taken_out x (B h)
unfolding gained lost
lost-here B c x h n =
    ap (λ t. cond t (taken_out x (cond (nat_eq h c) (put_in x (B h)) (B h))) (cond (nat_eq h c) (put_in x (B h)) (B h))) (eq-eqb h h refl)
    ∙ ap (λ t. taken_out x (cond t (put_in x (B h)) (B h))) (ne_eqb h c n)
