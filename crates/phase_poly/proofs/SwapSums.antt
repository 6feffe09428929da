-- Gates with no wire in common may be exchanged.
--   NotOn p g               gate g is not on wire p
--   Apart g h               gate g is on no wire of h
--   kept, made-kept, hadamard-kept, term-kept, constant-kept    what a gate leaves as it is
--   swapped                 two gates in the other order
--   off_next, off_there, off_back    a gate off the wires of a list: off those of the rest, and both ways apart from the first
--   past                    such a gate goes from the end to the front
use Rattle.std.proofs.Common.{◌≡◌, ◌≢◌, ℕ, suc, ◌+◌, ◌-◌, ◌*◌, ◌%◌, ◌^◌, Bool, true, false, cond, List, [], ◌∷◌, ◌++◌, refl, sym, ◌∙◌, ap, arith, Option, None, Some}
use Rattle.std.proofs.Math.Path.{fun_ext}
use Rattle.std.specs.Prelude.{nat_eq}
use Rattle.std.proofs.lemmas.Bool.Decides.{nat_tests}
use Rattle.std.proofs.lemmas.Nat.{mod-mul-add}
use Rattle.circuit_list.specs.declared.Gate.{Gate}
use Rattle.circuit_list.specs.declared.Gate.TheVariants.{H, X, P, Cx}
use Rattle.circuit_list.specs.Gates.{op_of, ops, IsFine}
use Rattle.unitary_model.specs.declared.Op.{Op}
use Rattle.unitary_model.specs.declared.Op.TheVariants.{U, Cx as OpCx}
use Rattle.unitary_model.proofs.Slide.{Off, OffOp}
use Rattle.path_parity.specs.PathSum.{PathLabel, Wires, with_label, add_labels, flipped, fresh}
use Rattle.path_parity.specs.NamedSums.{Seen, seen_after, next_variable, named_after, hadamard, hadamards, set_before, term, terms, constant_at, total}
use Rattle.phase_poly.specs.Replaced.{AreFine}
use Rattle.phase_poly.proofs.ListSums.{Alike, alike_refl, alike_trans, alike_after, alike_behind, first_of, set_before-append, total-append}

abbrev pub NotOn : ℕ → Gate → Type 0
NotOn p (H q) = p ≢ q
NotOn p (X q) = p ≢ q
NotOn p (P k q) = p ≢ q
NotOn p (Cx c t) = (p ≢ c) × (p ≢ t)

abbrev pub Apart : Gate → Gate → Type 0
Apart g (H q) = NotOn q g
Apart g (X q) = NotOn q g
Apart g (P k q) = NotOn q g
Apart g (Cx c t) = NotOn c g × NotOn t g

differs : (p q : ℕ) → p ≢ q → nat_eq p q ≡ false
differs p q d = grind (arith, nat_tests)

-- off its wires a gate changes nothing
kept : (n : ℕ) (g : Gate) (w : Wires) (s : Seen) (p : ℕ) → NotOn p g → named_after n g w s p ≡ w p
kept n (H q) w s p d = λ i. cond (differs p q d i) (fresh (next_variable n s q)) (w p)
kept n (X q) w s p d = λ i. cond (differs p q d i) (flipped (w q)) (w p)
kept n (P k q) w s p d = refl
kept n (Cx c t) w s p d = λ i. cond (differs p t d.1 i) (add_labels (w t) (w c)) (w p)

seen-kept : (g : Gate) (s : Seen) (p : ℕ) → NotOn p g → seen_after g s p ≡ s p
seen-kept (H q) s p d = λ i. cond (differs p q d i) (suc (s p)) (s p)
seen-kept (X q) s p d = refl
seen-kept (P k q) s p d = refl
seen-kept (Cx c t) s p d = refl

-- what gate h has, behind g and not
hadamard-kept : (n : ℕ) (g h : Gate) (w : Wires) (s : Seen) → Apart g h → hadamard n h (named_after n g w s) (seen_after g s) ≡ hadamard n h w s
hadamard-kept n g (H q) w s a = λ i. (suc (seen-kept g s q a i) * n + q, (kept n g w s q a i).variables) ∷ []
hadamard-kept n g (X q) w s a = refl
hadamard-kept n g (P k q) w s a = refl
hadamard-kept n g (Cx c t) w s a = refl

term-kept : (n : ℕ) (g h : Gate) (w : Wires) (s : Seen) → Apart g h → term n h (named_after n g w s) (seen_after g s) ≡ term n h w s
term-kept n g (H q) w s a = λ i. cond (kept n g w s q a i).bit ((2 ^ (suc (seen-kept g s q a i) * n + q), 4) ∷ []) []
term-kept n g (X q) w s a = refl
term-kept n g (P k q) w s a = λ i. ((kept n g w s q a i).variables, cond (kept n g w s q a i).bit (8 - k) k) ∷ []
term-kept n g (Cx c t) w s a = refl

constant-kept : (n : ℕ) (g h : Gate) (w : Wires) (s : Seen) → Apart g h → constant_at h (named_after n g w s) ≡ constant_at h w
constant-kept n g (H q) w s a = refl
constant-kept n g (X q) w s a = refl
constant-kept n g (P k q) w s a = λ i. cond (kept n g w s q a i).bit k 0
constant-kept n g (Cx c t) w s a = refl

-- a gate as a label put on one wire
abbrev target : Gate → ℕ
target (H q) = q
target (X q) = q
target (P k q) = q
target (Cx c t) = t

abbrev made : ℕ → Gate → Wires → Seen → PathLabel
made n (H q) w s = fresh (next_variable n s q)
made n (X q) w s = flipped (w q)
made n (P k q) w s = w q
made n (Cx c t) w s = add_labels (w t) (w c)

same : (a b : ℕ) → nat_eq a b ≡ true → a ≡ b
same a b e = grind (arith, nat_tests)

with_own : (v : Wires) (q : ℕ) → v ≡ with_label v q (v q)
with_own v q = fun_ext (λ p. go p (nat_eq p q) refl)
  where
    go : (p : ℕ) (t : Bool) → nat_eq p q ≡ t → v p ≡ cond t (v q) (v p)
    go p true e = ap v (same p q e)
    go p false e = refl

after-made : (n : ℕ) (g : Gate) (w : Wires) (s : Seen) → named_after n g w s ≡ with_label w (target g) (made n g w s)
after-made n (H q) w s = refl
after-made n (X q) w s = refl
after-made n (P k q) w s = with_own w q
after-made n (Cx c t) w s = refl

made-kept : (n : ℕ) (g h : Gate) (w : Wires) (s : Seen) → Apart g h → made n h (named_after n g w s) (seen_after g s) ≡ made n h w s
made-kept n g (H q) w s a = λ i. fresh (suc (seen-kept g s q a i) * n + q)
made-kept n g (X q) w s a = λ i. flipped (kept n g w s q a i)
made-kept n g (P k q) w s a = kept n g w s q a
made-kept n g (Cx c t) w s a = λ i. add_labels (kept n g w s t a.1 i) (kept n g w s c a.0 i)

off_target : (g : Gate) (q : ℕ) → NotOn q g → q ≢ target g
off_target (H p) q d = d
off_target (X p) q d = d
off_target (P k p) q d = d
off_target (Cx c t) q d = d.1

targets : (g h : Gate) → Apart g h → target h ≢ target g
targets g (H q) a = off_target g q a
targets g (X q) a = off_target g q a
targets g (P k q) a = off_target g q a
targets g (Cx c t) a = off_target g t a.1

with_swap : (w : Wires) (p q : ℕ) (k l : PathLabel) → q ≢ p → with_label (with_label w p k) q l ≡ with_label (with_label w q l) p k
with_swap w p q k l d = fun_ext (λ r. go r (nat_eq r q) (nat_eq r p) refl refl)
  where
    go : (r : ℕ) (a b : Bool) → nat_eq r q ≡ a → nat_eq r p ≡ b → cond a l (cond b k (w r)) ≡ cond b k (cond a l (w r))
    go r true true e f = absurd (d (sym (same r q e) ∙ same r p f))
    go r true false e f = refl
    go r false true e f = refl
    go r false false e f = refl

last-swap : (n : ℕ) (g h : Gate) (w : Wires) (s : Seen) → Apart g h → Apart h g → named_after n h (named_after n g w s) (seen_after g s) ≡ named_after n g (named_after n h w s) (seen_after h s)
last-swap n g h w s a b =
    after-made n h (named_after n g w s) (seen_after g s)
    ∙ (λ i. with_label (after-made n g w s i) (target h) (made-kept n g h w s a i))
    ∙ with_swap w (target g) (target h) (made n g w s) (made n h w s) (targets g h a)
    ∙ sym (λ i. with_label (after-made n h w s i) (target g) (made-kept n h g w s b i))
    ∙ sym (after-made n g (named_after n h w s) (seen_after h s))

seen-swap : (g h : Gate) (s : Seen) → Apart g h → seen_after h (seen_after g s) ≡ seen_after g (seen_after h s)
seen-swap (H p) (H q) s a = fun_ext (λ r. go r (nat_eq r q) (nat_eq r p) refl refl)
  where
    go : (r : ℕ) (x y : Bool) → nat_eq r q ≡ x → nat_eq r p ≡ y → cond x (suc (cond y (suc (s r)) (s r))) (cond y (suc (s r)) (s r)) ≡ cond y (suc (cond x (suc (s r)) (s r))) (cond x (suc (s r)) (s r))
    go r true true e f = refl
    go r true false e f = refl
    go r false true e f = refl
    go r false false e f = refl
seen-swap (H p) (X q) s a = refl
seen-swap (H p) (P k q) s a = refl
seen-swap (H p) (Cx c t) s a = refl
seen-swap (X p) h s a = refl
seen-swap (P k p) h s a = refl
seen-swap (Cx c t) h s a = refl

right_none : (x : Option ℕ) → first_of x None ≡ x
right_none None = refl
right_none (Some k) = refl

-- two H on different wires have different variables
sets-swap : (n : ℕ) (g h : Gate) (w : Wires) (s : Seen) → IsFine n g → IsFine n h → Apart g h → (v : ℕ) →
    first_of (set_before v (hadamard n h w s)) (set_before v (hadamard n g w s)) ≡ first_of (set_before v (hadamard n g w s)) (set_before v (hadamard n h w s))
sets-swap n (H p) (H q) w s lp lq a v = go (nat_eq (next_variable n s p) v) (nat_eq (next_variable n s q) v) refl refl
  where
    go : (x y : Bool) → nat_eq (next_variable n s p) v ≡ x → nat_eq (next_variable n s q) v ≡ y →
        first_of (cond y (Some (w q).variables) None) (cond x (Some (w p).variables) None) ≡ first_of (cond x (Some (w p).variables) None) (cond y (Some (w q).variables) None)
    go true true e f = absurd (a (sym (mod-mul-add (suc (s q)) n q lq) ∙ ap (λ m. m % n) (same (next_variable n s q) v f ∙ sym (same (next_variable n s p) v e)) ∙ mod-mul-add (suc (s p)) n p lp))
    go true false e f = refl
    go false true e f = refl
    go false false e f = refl
sets-swap n (H p) (X q) w s lp lq a v = sym (right_none (set_before v (hadamard n (H p) w s)))
sets-swap n (H p) (P k q) w s lp lq a v = sym (right_none (set_before v (hadamard n (H p) w s)))
sets-swap n (H p) (Cx c t) w s lp lq a v = sym (right_none (set_before v (hadamard n (H p) w s)))
sets-swap n (X p) h w s lp lq a v = right_none (set_before v (hadamard n h w s))
sets-swap n (P k p) h w s lp lq a v = right_none (set_before v (hadamard n h w s))
sets-swap n (Cx c t) h w s lp lq a v = right_none (set_before v (hadamard n h w s))

-- ---- two gates in the other order
two_sets : (n : ℕ) (g h : Gate) (w : Wires) (s : Seen) → Apart g h → (v : ℕ) →
    set_before v (hadamards n (g ∷ h ∷ []) w s) ≡ first_of (set_before v (hadamard n g w s)) (set_before v (hadamard n h w s))
two_sets n g h w s a v =
    set_before-append v (hadamard n g w s) (hadamard n h (named_after n g w s) (seen_after g s) ++ [])
    ∙ ap (first_of (set_before v (hadamard n g w s)))
    (set_before-append v (hadamard n h (named_after n g w s) (seen_after g s)) [] ∙ right_none (set_before v (hadamard n h (named_after n g w s) (seen_after g s)))
    ∙ ap (set_before v) (hadamard-kept n g h w s a))

two_totals : (n : ℕ) (g h : Gate) (w : Wires) (s : Seen) → Apart g h → (m : ℕ) → total m (terms n (g ∷ h ∷ []) w s) ≡ total m (term n g w s) + total m (term n h w s)
two_totals n g h w s a m =
    let x = total-append m (term n g w s) (term n h (named_after n g w s) (seen_after g s) ++ []) in
    let y = total-append m (term n h (named_after n g w s) (seen_after g s)) [] in
    let z : total m (term n h (named_after n g w s) (seen_after g s)) ≡ total m (term n h w s) = ap (total m) (term-kept n g h w s a) in
    omega (arith, x, y, z)

pub swapped : (n : ℕ) (g h : Gate) → IsFine n g → IsFine n h → Apart g h → Apart h g → Alike n 0 (g ∷ h ∷ []) (h ∷ g ∷ [])
swapped n g h lg lh a b = record {
  sets = λ w s v. two_sets n h g w s b v ∙ sets-swap n g h w s lg lh a v ∙ sym (two_sets n g h w s a v);
  last = λ w s. last-swap n h g w s b a;
  seen = λ s. sym (seen-swap g h s a);
  totals = λ w s m. let x = two_totals n g h w s a m in let y = two_totals n h g w s b m in omega (arith, x, y);
  constants = λ w s. let x = constant-kept n g h w s a in let y = constant-kept n h g w s b in omega (arith, x, y);
}

-- ---- past a list
off_rest : (p : ℕ) (h : Gate) (gs : List Gate) → Off p (ops (h ∷ gs)) → Off p (ops gs)
off_rest p (H q) gs o = o.1
off_rest p (X q) gs o = o.1
off_rest p (P k q) gs o = o.1
off_rest p (Cx c t) gs o = o.1.1

not_on : (p : ℕ) (h : Gate) (gs : List Gate) → Off p (ops (h ∷ gs)) → NotOn p h
not_on p (H q) gs o = λ e. o.0 (sym e)
not_on p (X q) gs o = λ e. o.0 (sym e)
not_on p (P k q) gs o = λ e. o.0 (sym e)
not_on p (Cx c t) gs o = (λ e. o.0 (sym e), λ e. o.1.0 (sym e))

off_one : (g : Gate) (a b c q : ℕ) (us : List Op) → OffOp (op_of g) (U a b c q ∷ us) → NotOn q g
off_one (H p) a b c q us o = o.0
off_one (X p) a b c q us o = o.0
off_one (P k p) a b c q us o = o.0
off_one (Cx d e) a b c q us o = (o.0.0, o.1.0)

off_two : (g : Gate) (c t : ℕ) (us : List Op) → OffOp (op_of g) (OpCx c t ∷ us) → NotOn c g × NotOn t g
off_two (H p) c t us o = (o.0, o.1.0)
off_two (X p) c t us o = (o.0, o.1.0)
off_two (P k p) c t us o = (o.0, o.1.0)
off_two (Cx d e) c t us o = ((o.0.0, o.1.0), (o.0.1.0, o.1.1.0))

off_next : (g h : Gate) (gs : List Gate) → OffOp (op_of g) (ops (h ∷ gs)) → OffOp (op_of g) (ops gs)
off_next (H p) h gs o = off_rest p h gs o
off_next (X p) h gs o = off_rest p h gs o
off_next (P k p) h gs o = off_rest p h gs o
off_next (Cx c t) h gs o = (off_rest c h gs o.0, off_rest t h gs o.1)

off_there : (g h : Gate) (gs : List Gate) → OffOp (op_of g) (ops (h ∷ gs)) → Apart g h
off_there g (H q) gs o = off_one g 2 0 4 q (ops gs) o
off_there g (X q) gs o = off_one g 4 0 4 q (ops gs) o
off_there g (P k q) gs o = off_one g 0 0 k q (ops gs) o
off_there g (Cx c t) gs o = off_two g c t (ops gs) o

off_back : (g h : Gate) (gs : List Gate) → OffOp (op_of g) (ops (h ∷ gs)) → Apart h g
off_back (H p) h gs o = not_on p h gs o
off_back (X p) h gs o = not_on p h gs o
off_back (P k p) h gs o = not_on p h gs o
off_back (Cx c t) h gs o = (not_on c h gs o.0, not_on t h gs o.1)

pub past : (n : ℕ) (g : Gate) (gs : List Gate) → IsFine n g → AreFine n gs → OffOp (op_of g) (ops gs) → Alike n 0 (gs ++ g ∷ []) (g ∷ gs)
past n g [] f fs o = alike_refl n (g ∷ [])
past n g (h ∷ gs) f fs o = alike_trans n 0 0 (h ∷ (gs ++ g ∷ [])) (h ∷ g ∷ gs) (g ∷ h ∷ gs)
    (alike_behind n 0 h (gs ++ g ∷ []) (g ∷ gs) (past n g gs f fs.1 (off_next g h gs o)))
    (alike_after n 0 (h ∷ g ∷ []) (g ∷ h ∷ []) gs (swapped n h g fs.0 f (off_back g h gs o) (off_there g h gs o)))
