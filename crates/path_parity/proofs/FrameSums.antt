-- Circuits that differ in their P alone, and the numbered path sum.
--     hadamards-frame, terms-frame, constant-frame    what a circuit has, by its frame and its marks
--     same-frame              the same frame and the same totals of the marks: the same numbered path sum
--     constants-frame         then the constants differ as those of the marks
use Rattle.std.proofs.Common.{◌≡◌, ℕ, suc, ◌+◌, ◌%◌, ◌^◌, Bool, true, false, cond, List, [], ◌∷◌, ◌++◌, refl, sym, ◌∙◌, ap, arith}
use Rattle.circuit_list.specs.declared.Gate.{Gate}
use Rattle.circuit_list.specs.declared.Gate.TheVariants.{H, X, P, Cx}
use Rattle.path_parity.specs.PathSum.{Wires, with_label, add_labels, flipped, fresh, own_labels, last_labels}
use Rattle.path_parity.specs.NamedSums.{constant_of, total, SamePathSum}
use Rattle.path_parity.specs.NumberedSums.{numbered_hadamards, numbered_terms, numbered_constant}
use Rattle.path_parity.proofs.MergeLaws.{marks, frame, last_labels-frame}
use Rattle.path_parity.proofs.MergeSums.{signed, constant}
use Rattle.path_parity.proofs.NumberedLaws.{numbered-named, constant-numbered}

pub hadamards-frame : (gs : List Gate) (w : Wires) (u : ℕ) → numbered_hadamards gs w u ≡ numbered_hadamards (frame gs) w u
hadamards-frame [] w u = refl
hadamards-frame (H q ∷ gs) w u = ap (λ hs. (q, (w q).variables) ∷ hs) (hadamards-frame gs (with_label w q (fresh u)) (suc u))
hadamards-frame (X q ∷ gs) w u = hadamards-frame gs (with_label w q (flipped (w q))) u
hadamards-frame (P k q ∷ gs) w u = hadamards-frame gs w u
hadamards-frame (Cx c t ∷ gs) w u = hadamards-frame gs (with_label w t (add_labels (w t) (w c))) u

pub terms-frame : (m : ℕ) (gs : List Gate) (w : Wires) (u : ℕ) → total m (numbered_terms gs w u) ≡ total m (signed (marks gs w u)) + total m (numbered_terms (frame gs) w u)
terms-frame m [] w u = refl
terms-frame m (H q ∷ gs) w u =
    let v : Wires = with_label w q (fresh u) in
    go (w q).bit (numbered_terms gs v (suc u)) (numbered_terms (frame gs) v (suc u)) (total m (signed (marks gs v (suc u)))) (terms-frame m gs v (suc u))
  where
    go : (b : Bool) (x y : List (ℕ × ℕ)) (a : ℕ) → total m x ≡ a + total m y → total m (cond b ((2 ^ u, 4) ∷ []) [] ++ x) ≡ a + total m (cond b ((2 ^ u, 4) ∷ []) [] ++ y)
    go true x y a e = omega (arith, e)
    go false x y a e = e
terms-frame m (X q ∷ gs) w u = terms-frame m gs (with_label w q (flipped (w q))) u
terms-frame m (P k q ∷ gs) w u = let e = terms-frame m gs w u in omega (arith, e)
terms-frame m (Cx c t ∷ gs) w u = terms-frame m gs (with_label w t (add_labels (w t) (w c))) u

pub constant-frame : (gs : List Gate) (w : Wires) (u : ℕ) → numbered_constant gs w u ≡ constant (marks gs w u) + numbered_constant (frame gs) w u
constant-frame [] w u = refl
constant-frame (H q ∷ gs) w u = let e = constant-frame gs (with_label w q (fresh u)) (suc u) in omega (arith, e)
constant-frame (X q ∷ gs) w u = let e = constant-frame gs (with_label w q (flipped (w q))) u in omega (arith, e)
constant-frame (P k q ∷ gs) w u = let e = constant-frame gs w u in omega (arith, e)
constant-frame (Cx c t ∷ gs) w u = let e = constant-frame gs (with_label w t (add_labels (w t) (w c))) u in omega (arith, e)

pub same-frame : (n : ℕ) (A B : List Gate) → frame B ≡ frame A →
    ((m : ℕ) → total m (signed (marks B (own_labels n) n)) % 8 ≡ total m (signed (marks A (own_labels n) n)) % 8) → SamePathSum n A B
same-frame n A B f h = numbered-named n A B (record {
  hadamards = hadamards-frame B w n ∙ ap (λ gs. numbered_hadamards gs w n) f ∙ sym (hadamards-frame A w n);
  last = λ q lt. ap (λ (v : Wires). v q) (last_labels-frame B w n ∙ ap (λ gs. last_labels gs w n) f ∙ sym (last_labels-frame A w n));
  totals = λ m.
      let a = terms-frame m A w n in
      let b = terms-frame m B w n in
      let e : total m (numbered_terms (frame B) w n) ≡ total m (numbered_terms (frame A) w n) = ap (λ gs. total m (numbered_terms gs w n)) f in
      let t = h m in
      omega (arith, a, b, e, t);
})
  where
    w : Wires
    w = own_labels n

pub constants-frame : (n : ℕ) (A B : List Gate) (t : ℕ) → frame B ≡ frame A →
    constant (marks B (own_labels n) n) % 8 ≡ (constant (marks A (own_labels n) n) + t) % 8 → (constant_of n A + t) % 8 ≡ constant_of n B % 8
constants-frame n A B t f c =
    let a : constant_of n A ≡ constant (marks A (own_labels n) n) + numbered_constant (frame A) (own_labels n) n = constant-numbered n A ∙ constant-frame A (own_labels n) n in
    let b : constant_of n B ≡ constant (marks B (own_labels n) n) + numbered_constant (frame B) (own_labels n) n = constant-numbered n B ∙ constant-frame B (own_labels n) n in
    let e : numbered_constant (frame B) (own_labels n) n ≡ numbered_constant (frame A) (own_labels n) n = ap (λ gs. numbered_constant gs (own_labels n) n) f in
    omega (arith, a, b, e, c)
