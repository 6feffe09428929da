-- Lists of gates that may stand for each other in a path sum with named variables, behind any labels.
--   seen_last gs s          how many H stand before, after a list
--   last-append, seen-append, hadamards-append, terms-append, constant-append    a list in two parts
--   first_of x y            the first of two, where there is one;  set_before-append, total-append: H and terms in two parts
--   Alike n t A B           from any labels: the same set before each H, the same last labels, the same totals, and constants that
--                           differ by t
--   alike_refl, alike_trans    no change, and one after the other;  alike_same: another t that is the same modulo 8
--   alike_after, alike_behind, alike_before, alike_inside       the same in a longer list
--   alike-sums, alike-constants     so for a circuit
use Rattle.std.proofs.Common.{◌≡◌, ℕ, ◌+◌, ◌%◌, Bool, true, false, cond, List, [], ◌∷◌, ◌++◌, refl, sym, ◌∙◌, ap, arith, Option, None, Some, append_assoc, zero-add}
use Rattle.std.specs.Prelude.{nat_eq}
use Rattle.circuit_list.specs.declared.Gate.{Gate}
use Rattle.path_parity.specs.PathSum.{Wires, own_labels}
use Rattle.path_parity.specs.NamedSums.{Seen, unseen, seen_after, named_after, named_last, hadamard, hadamards, set_before, term, terms, constant, constant_of, total, SamePathSum}

abbrev pub seen_last : List Gate → Seen → Seen
seen_last [] s = s
seen_last (g ∷ gs) s = seen_last gs (seen_after g s)

pub last-append : (n : ℕ) (A B : List Gate) (w : Wires) (s : Seen) → named_last n (A ++ B) w s ≡ named_last n B (named_last n A w s) (seen_last A s)
last-append n [] B w s = refl
last-append n (g ∷ A) B w s = last-append n A B (named_after n g w s) (seen_after g s)

pub seen-append : (A B : List Gate) (s : Seen) → seen_last (A ++ B) s ≡ seen_last B (seen_last A s)
seen-append [] B s = refl
seen-append (g ∷ A) B s = seen-append A B (seen_after g s)

pub hadamards-append : (n : ℕ) (A B : List Gate) (w : Wires) (s : Seen) → hadamards n (A ++ B) w s ≡ hadamards n A w s ++ hadamards n B (named_last n A w s) (seen_last A s)
hadamards-append n [] B w s = refl
hadamards-append n (g ∷ A) B w s = ap (λ hs. hadamard n g w s ++ hs) (hadamards-append n A B (named_after n g w s) (seen_after g s))
    ∙ sym (append_assoc (hadamard n g w s) (hadamards n A (named_after n g w s) (seen_after g s)) (hadamards n B (named_last n A (named_after n g w s) (seen_after g s)) (seen_last A (seen_after g s))))

pub terms-append : (n : ℕ) (A B : List Gate) (w : Wires) (s : Seen) → terms n (A ++ B) w s ≡ terms n A w s ++ terms n B (named_last n A w s) (seen_last A s)
terms-append n [] B w s = refl
terms-append n (g ∷ A) B w s = ap (λ hs. term n g w s ++ hs) (terms-append n A B (named_after n g w s) (seen_after g s))
    ∙ sym (append_assoc (term n g w s) (terms n A (named_after n g w s) (seen_after g s)) (terms n B (named_last n A (named_after n g w s) (seen_after g s)) (seen_last A (seen_after g s))))

pub constant-append : (n : ℕ) (A B : List Gate) (w : Wires) (s : Seen) → constant n (A ++ B) w s ≡ constant n A w s + constant n B (named_last n A w s) (seen_last A s)
constant-append n [] B w s = sym (zero-add (constant n B w s))
constant-append n (g ∷ A) B w s = let e = constant-append n A B (named_after n g w s) (seen_after g s) in omega (arith, e)

abbrev pub first_of : Option ℕ → Option ℕ → Option ℕ
first_of None b = b
first_of (Some a) b = Some a

pub set_before-append : (v : ℕ) (hs ks : List (ℕ × ℕ)) → set_before v (hs ++ ks) ≡ first_of (set_before v hs) (set_before v ks)
set_before-append v [] ks = refl
set_before-append v (h ∷ hs) ks = go (nat_eq h.0 v) (set_before-append v hs ks)
  where
    go : (b : Bool) → set_before v (hs ++ ks) ≡ first_of (set_before v hs) (set_before v ks) → cond b (Some h.1) (set_before v (hs ++ ks)) ≡ first_of (cond b (Some h.1) (set_before v hs)) (set_before v ks)
    go true e = refl
    go false e = e

pub total-append : (m : ℕ) (es fs : List (ℕ × ℕ)) → total m (es ++ fs) ≡ total m es + total m fs
total-append m [] fs = sym (zero-add (total m fs))
total-append m (e ∷ es) fs = let h = total-append m es fs in omega (arith, h)

-- ---- lists that may stand for each other
pub record Alike (n t : ℕ) (A B : List Gate) : Type 0 where
  pub sets : (w : Wires) (s : Seen) (v : ℕ) → set_before v (hadamards n B w s) ≡ set_before v (hadamards n A w s)
  pub last : (w : Wires) (s : Seen) → named_last n B w s ≡ named_last n A w s
  pub seen : (s : Seen) → seen_last B s ≡ seen_last A s
  pub totals : (w : Wires) (s : Seen) (m : ℕ) → total m (terms n B w s) % 8 ≡ total m (terms n A w s) % 8
  pub constants : (w : Wires) (s : Seen) → constant n B w s % 8 ≡ (constant n A w s + t) % 8

pub alike_refl : (n : ℕ) (A : List Gate) → Alike n 0 A A
alike_refl n A = record { sets = λ w s v. refl; last = λ w s. refl; seen = λ s. refl; totals = λ w s m. refl; constants = λ w s. omega arith }

pub alike_trans : (n t r : ℕ) (A B C : List Gate) → Alike n t A B → Alike n r B C → Alike n (t + r) A C
alike_trans n t r A B C f g = record {
  sets = λ w s v. g.sets w s v ∙ f.sets w s v;
  last = λ w s. g.last w s ∙ f.last w s;
  seen = λ s. g.seen s ∙ f.seen s;
  totals = λ w s m. g.totals w s m ∙ f.totals w s m;
  constants = λ w s. let a = f.constants w s in let b = g.constants w s in omega (arith, a, b);
}

pub alike_same : (n j k : ℕ) (A B : List Gate) → j % 8 ≡ k % 8 → Alike n j A B → Alike n k A B
alike_same n j k A B e f = record {
  sets = f.sets;
  last = f.last;
  seen = f.seen;
  totals = f.totals;
  constants = λ w s. let c = f.constants w s in omega (arith, c, e);
}

pub alike_after : (n t : ℕ) (A B S : List Gate) → Alike n t A B → Alike n t (A ++ S) (B ++ S)
alike_after n t A B S f = record {
  sets = λ w s v.
      ap (set_before v) (hadamards-append n B S w s) ∙ set_before-append v (hadamards n B w s) (hadamards n S (named_last n B w s) (seen_last B s))
      ∙ (λ i. first_of (f.sets w s v i) (set_before v (hadamards n S (f.last w s i) (f.seen s i))))
      ∙ sym (ap (set_before v) (hadamards-append n A S w s) ∙ set_before-append v (hadamards n A w s) (hadamards n S (named_last n A w s) (seen_last A s)));
  last = λ w s. last-append n B S w s ∙ (λ i. named_last n S (f.last w s i) (f.seen s i)) ∙ sym (last-append n A S w s);
  seen = λ s. seen-append B S s ∙ ap (seen_last S) (f.seen s) ∙ sym (seen-append A S s);
  totals = λ w s m.
      let a : total m (terms n (A ++ S) w s) ≡ total m (terms n A w s) + total m (terms n S (named_last n A w s) (seen_last A s)) =
      ap (total m) (terms-append n A S w s) ∙ total-append m (terms n A w s) (terms n S (named_last n A w s) (seen_last A s)) in
      let b : total m (terms n (B ++ S) w s) ≡ total m (terms n B w s) + total m (terms n S (named_last n A w s) (seen_last A s)) =
      ap (total m) (terms-append n B S w s) ∙ total-append m (terms n B w s) (terms n S (named_last n B w s) (seen_last B s))
      ∙ (λ i. total m (terms n B w s) + total m (terms n S (f.last w s i) (f.seen s i))) in
      let c = f.totals w s m in
      omega (arith, a, b, c);
  constants = λ w s.
      let a = constant-append n A S w s in
      let b : constant n (B ++ S) w s ≡ constant n B w s + constant n S (named_last n A w s) (seen_last A s) =
      constant-append n B S w s ∙ (λ i. constant n B w s + constant n S (f.last w s i) (f.seen s i)) in
      let c = f.constants w s in
      omega (arith, a, b, c);
}

pub alike_behind : (n t : ℕ) (g : Gate) (A B : List Gate) → Alike n t A B → Alike n t (g ∷ A) (g ∷ B)
alike_behind n t g A B f = record {
  sets = λ w s v.
      set_before-append v (hadamard n g w s) (hadamards n B (named_after n g w s) (seen_after g s))
      ∙ ap (first_of (set_before v (hadamard n g w s))) (f.sets (named_after n g w s) (seen_after g s) v)
      ∙ sym (set_before-append v (hadamard n g w s) (hadamards n A (named_after n g w s) (seen_after g s)));
  last = λ w s. f.last (named_after n g w s) (seen_after g s);
  seen = λ s. f.seen (seen_after g s);
  totals = λ w s m.
      let a = total-append m (term n g w s) (terms n A (named_after n g w s) (seen_after g s)) in
      let b = total-append m (term n g w s) (terms n B (named_after n g w s) (seen_after g s)) in
      let c = f.totals (named_after n g w s) (seen_after g s) m in
      omega (arith, a, b, c);
  constants = λ w s. let c = f.constants (named_after n g w s) (seen_after g s) in omega (arith, c);
}

pub alike_before : (n t : ℕ) (G A B : List Gate) → Alike n t A B → Alike n t (G ++ A) (G ++ B)
alike_before n t [] A B f = f
alike_before n t (g ∷ G) A B f = alike_behind n t g (G ++ A) (G ++ B) (alike_before n t G A B f)

pub alike_inside : (n t : ℕ) (G A B S : List Gate) → Alike n t A B → Alike n t (G ++ (A ++ S)) (G ++ (B ++ S))
alike_inside n t G A B S f = alike_before n t G (A ++ S) (B ++ S) (alike_after n t A B S f)

-- ---- of a circuit
pub alike-sums : (n t : ℕ) (A B : List Gate) → Alike n t A B → SamePathSum n A B
alike-sums n t A B f = record {
  sets = λ v. f.sets (own_labels n) unseen v;
  last = λ q lt. ap (λ (w : Wires). w q) (f.last (own_labels n) unseen);
  totals = λ m. f.totals (own_labels n) unseen m;
}

pub alike-constants : (n t : ℕ) (A B : List Gate) → Alike n t A B → (constant_of n A + t) % 8 ≡ constant_of n B % 8
alike-constants n t A B f = sym (f.constants (own_labels n) unseen)
