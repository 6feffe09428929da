-- The keys that hold an odd set.
--     holds-none              no key holds no label
--     holds-in, holds-out     a set that is put in, and one that is taken out
use Rattle.std.proofs.Common.{◌≡◌, ◌≢◌, ℕ, ◌+◌, Bool, true, false, cond, not, List, [], length, refl, sym, subst, ◌∙◌, ap, arith}
use Rattle.std.specs.Prelude.{nat_eq}
use Rattle.std.specs.List.{list_any}
use Rattle.std.specs.Set.{KeepsOthers}
use Rattle.std.specs.Cmp.Lexicographic.{bytes_decides}
use Rattle.std.proofs.lemmas.Bool.Decides.{nat_tests}
use lib.Pointwise.{pointwise}
use Rattle.unitary_model.specs.OddPaths.{toggle}
use Rattle.path_parity.specs.OddLabels.{is_odd}
use Rattle.path_parity.specs.OddSets.{HoldsSets}
use Rattle.path_parity.specs.Sets.{set_of, IsPacked}
use Rattle.path_parity.proofs.OddLaws.{is_odd-toggle, IsOnce-toggle, toggle-shorter, toggle-longer}
use Rattle.path_parity.proofs.SetLaws.{set-same}

unless : (b : Bool) → (b ≡ true → ⊥) → b ≡ false
unless true h = absurd (h refl)
unless false h = refl

module _ {K : Type 0} (items : K → List ℕ) where
  abbrev test : List ℕ → K → Bool
  test row k = pointwise nat_eq row (items k)

  pub holds-none : HoldsSets items [] []
  holds-none = record { many = refl; once = tt; has = λ row h. refl }

  -- another row is among the new keys where it was among the old
  others : (old new : List K) (row other : List ℕ) → KeepsOthers (λ x y. pointwise nat_eq (items x) (items y)) (test row) old new → other ≢ row → list_any (test other) new ≡ list_any (test other) old
  unfolding KeepsOthers
  others old new row other keeps ne = keeps (test other) same away
    where
      same : (x y : K) → pointwise nat_eq other (items x) ≡ true → pointwise nat_eq other (items y) ≡ pointwise nat_eq (items x) (items y)
      same x y e = ap (λ zs. pointwise nat_eq zs (items y)) ((bytes_decides other (items x)).0 e)

      away : (k : K) → pointwise nat_eq row (items k) ≡ true → pointwise nat_eq other (items k) ≡ false
      away k e = unless (pointwise nat_eq other (items k)) (λ f. ne ((bytes_decides other (items k)).0 f ∙ sym ((bytes_decides row (items k)).0 e)))

  -- the row itself is there where it wasn't
  has-after : (old new : List K) (row : List ℕ) (s : List ℕ) (b : Bool) → IsPacked row → list_any (test row) old ≡ not b → list_any (test row) new ≡ b →
      KeepsOthers (λ x y. pointwise nat_eq (items x) (items y)) (test row) old new → HoldsSets items old s →
      (other : List ℕ) → IsPacked other → list_any (test other) new ≡ is_odd (set_of other) (toggle (set_of row) s)
  has-after old new row s b p was now keeps h other q = go (nat_eq (set_of other) (set_of row)) refl ∙ sym (is_odd-toggle (set_of row) s (set_of other))
    where
      is : nat_eq (set_of other) (set_of row) ≡ true → set_of other ≡ set_of row
      is e = grind (arith, nat_tests)

      clash : set_of other ≡ set_of row → nat_eq (set_of other) (set_of row) ≡ false → ⊥
      clash e f = grind (arith, nat_tests)

      twice : (b : Bool) → b ≡ not (not b)
      twice true = refl
      twice false = refl

      go : (t : Bool) → nat_eq (set_of other) (set_of row) ≡ t → list_any (test other) new ≡ cond t (not (is_odd (set_of other) s)) (is_odd (set_of other) s)
      go true e = ap (λ r. list_any (test r) new) (set-same other row q p (is e)) ∙ now ∙ twice b ∙ ap not (sym was ∙ h.has row p ∙ ap (λ z. is_odd z s) (sym (is e)))
      go false e = others old new row other keeps (λ f. clash (ap set_of f) e) ∙ h.has other q

  pub holds-in : (old mid new : List K) (row key : List ℕ) (s : List ℕ) → key ≡ row → IsPacked row → list_any (test row) old ≡ false → mid ≡ old → list_any (test key) new ≡ true →
      KeepsOthers (λ x y. pointwise nat_eq (items x) (items y)) (test key) mid new → length new ≡ length mid + 1 →
      HoldsSets items old s → HoldsSets items new (toggle (set_of row) s)
  holds-in old mid new row key s e p was same now keeps more h = record {
    many = omega (arith, more, ap (λ (ks : List K). length ks) same, h.many, toggle-longer (set_of row) s h.once (sym (h.has row p) ∙ was));
    once = IsOnce-toggle (set_of row) s h.once;
    has = has-after old new row s true p was (ap (λ r. list_any (test r) new) (sym e) ∙ now)
        (subst (λ ks. KeepsOthers (λ x y. pointwise nat_eq (items x) (items y)) (test row) ks new) same (subst (λ r. KeepsOthers (λ x y. pointwise nat_eq (items x) (items y)) (test r) mid new) e keeps)) h;
  }

  pub holds-out : (old new : List K) (row : List ℕ) (s : List ℕ) → IsPacked row → list_any (test row) old ≡ true → list_any (test row) new ≡ false →
      KeepsOthers (λ x y. pointwise nat_eq (items x) (items y)) (test row) old new → length new + 1 ≡ length old →
      HoldsSets items old s → HoldsSets items new (toggle (set_of row) s)
  holds-out old new row s p was now keeps fewer h = record {
    many = omega (arith, fewer, h.many, toggle-shorter (set_of row) s (sym (h.has row p) ∙ was));
    once = IsOnce-toggle (set_of row) s h.once;
    has = has-after old new row s false p was now keeps h;
  }
