-- Lemmas of the plain walk of odd path parities.
--     walked-even, walked-odd     an operation past a U with one fresh variable, and with two
--     own-none, own-more      labels in a list are the own variables of no wire, of one more
--     unused-walked, unused-all       variables are never given back
--     variables_at, wires_at      the variables and the wires of one operation of a list
use Rattle.std.proofs.Common.{◌≡◌, ◌≢◌, ℕ, zero, suc, ◌+◌, ◌*◌, ◌%◌, ◌^◌, ◌<◌, ◌≤◌, Bool, true, false, cond, List, [], ◌∷◌, length, drop, drop-cons, get_or, set, replicate, refl, sym, ◌∙◌, ap, arith}
use Rattle.std.proofs.Math.Path.{fun_ext}
use Rattle.std.specs.Prelude.{nat_eq, nat_lt, slice_index}
use Rattle.std.proofs.lemmas.Bool.Decides.{nat_tests}
use Rattle.std.proofs.lemmas.List.{get_or-set_same, get_or-set_other}
use Rattle.std.proofs.lemmas.Nat.{one_shl}
use Rattle.unitary_model.specs.declared.Op.{Op}
use Rattle.unitary_model.specs.declared.Op.TheVariants.{U, Cx}
use Rattle.unitary_model.specs.Operations.{WiresBelow}
use Rattle.unitary_model.specs.OddPaths.{Labels, own_variables, Walk, toggle_at, toggle_odd, fresh_at, walked, walked_all}

pub walked-even : (u : Op) (a b c q : ℕ) (w : Walk) → u ≡ U a b c q → a % 4 ≢ 0 → a % 2 ≡ 0 → walked u w ≡ toggle_odd b q (fresh_at q (toggle_odd c q w))
walked-even u a b c q w e h g = ap (λ v. walked v w) e ∙ (λ i. cond (no i) (toggle_odd (b + c) q w) (cond (yes i) one (toggle_odd b q (fresh_at q (toggle_at q (fresh_at q (toggle_odd c q w)))))))
  where
    one : Walk
    one = toggle_odd b q (fresh_at q (toggle_odd c q w))

    no : nat_eq (a % 4) 0 ≡ false
    no = grind (arith, nat_tests)

    yes : nat_eq (a % 2) 0 ≡ true
    yes = grind (arith, nat_tests)

pub walked-odd : (u : Op) (a b c q : ℕ) (w : Walk) → u ≡ U a b c q → a % 4 ≢ 0 → a % 2 ≢ 0 → walked u w ≡ toggle_odd b q (fresh_at q (toggle_at q (fresh_at q (toggle_odd c q w))))
walked-odd u a b c q w e h g = ap (λ v. walked v w) e ∙ (λ i. cond (no i) (toggle_odd (b + c) q w) (cond (none i) (toggle_odd b q (fresh_at q (toggle_odd c q w))) two))
  where
    two : Walk
    two = toggle_odd b q (fresh_at q (toggle_at q (fresh_at q (toggle_odd c q w))))

    no : nat_eq (a % 4) 0 ≡ false
    no = grind (arith, nat_tests)

    none : nat_eq (a % 2) 0 ≡ false
    none = grind (arith, nat_tests)

pub own-none : (n : ℕ) → slice_index (replicate n 0) ≡ own_variables 0
own-none n = fun_ext (λ q. zeros n q ∙ none q)
  where
    zeros : (n q : ℕ) → ◌≡◌ {A = ℕ} (get_or (replicate n 0) q 0) 0
    zeros zero q = refl
    zeros (suc n) zero = refl
    zeros (suc n) (suc q) = zeros n q

    none : (q : ℕ) → ◌≡◌ {A = ℕ} 0 (own_variables 0 q)
    none q = grind (arith, nat_tests)

pub own-more : (labels : List ℕ) (n : ℕ) → n < length labels → n < 64 → slice_index labels ≡ own_variables n → slice_index (set labels n ((1 * 2 ^ n) % 2 ^ 64)) ≡ own_variables (n + 1)
own-more labels n h few e = ap (λ l. slice_index (set labels n l)) (one_shl n 64 few) ∙ fun_ext (λ q. go q (nat_eq q n) refl)
  where
    here : (q : ℕ) → nat_eq q n ≡ true → q ≡ n
    here q f = grind (arith, nat_tests)

    at : 2 ^ n ≡ own_variables (n + 1) n
    at = grind (arith, nat_tests)

    other : (q : ℕ) → nat_eq q n ≡ false → q ≢ n
    other q f = grind (arith, nat_tests)

    off : (q : ℕ) → nat_eq q n ≡ false → own_variables n q ≡ own_variables (n + 1) q
    off q f = ap (λ b. cond b (2 ^ q) 0) (same q f)
      where
        same : (q : ℕ) → nat_eq q n ≡ false → nat_lt q n ≡ nat_lt q (n + 1)
        same q f = grind (arith, nat_tests)

    go : (q : ℕ) (b : Bool) → nat_eq q n ≡ b → slice_index (set labels n (2 ^ n)) q ≡ own_variables (n + 1) q
    go q true f = ap (slice_index (set labels n (2 ^ n))) (here q f) ∙ get_or-set_same labels n (2 ^ n) 0 h ∙ at ∙ ap (own_variables (n + 1)) (sym (here q f))
    go q false f = get_or-set_other labels n q (2 ^ n) 0 (other q f) ∙ ap (λ (l : Labels). l q) e ∙ off q f

toggle_odd-unused : (k q : ℕ) (w : Walk) → (toggle_odd k q w).unused ≡ w.unused
toggle_odd-unused k q w = go (nat_eq (k % 2) 1)
  where
    go : (b : Bool) → (cond b (toggle_at q w) w).unused ≡ w.unused
    go true = refl
    go false = refl

pub unused-walked : (u : Op) (w : Walk) → w.unused ≤ (walked u w).unused
unused-walked (Cx c t) w = omega arith
unused-walked (U a b c q) w = go (nat_eq (a % 4) 0) (nat_eq (a % 2) 0)
  where
    go : (s t : Bool) → w.unused ≤ (cond s (toggle_odd (b + c) q w) (cond t (toggle_odd b q (fresh_at q (toggle_odd c q w))) (toggle_odd b q (fresh_at q (toggle_at q (fresh_at q (toggle_odd c q w))))))).unused
    go true t = omega (arith, toggle_odd-unused (b + c) q w)
    go false true = omega (arith, toggle_odd-unused b q (fresh_at q (toggle_odd c q w)), toggle_odd-unused c q w)
    go false false = omega (arith, toggle_odd-unused b q (fresh_at q (toggle_at q (fresh_at q (toggle_odd c q w)))), toggle_odd-unused c q w)

pub unused-all : (us : List Op) (w : Walk) → w.unused ≤ (walked_all us w).unused
unused-all [] w = omega arith
unused-all (u ∷ us) w = omega (arith, unused-walked u w, unused-all us (walked u w))

-- at one operation of a list that is walked to its end
pub variables_at : (us : List Op) (i : ℕ) (d : Op) (w end : Walk) (m : ℕ) → i < length us → walked_all (drop i us) w ≡ end → end.unused ≤ m → (walked (get_or us i d) w).unused ≤ m
variables_at us i d w end m h e le =
    let all : (walked_all (drop (suc i) us) (walked (get_or us i d) w)).unused ≡ end.unused = ap (λ (v : Walk). v.unused) (ap (λ vs. walked_all vs w) (sym (drop-cons us i d h)) ∙ e) in
    omega (arith, all, unused-all (drop (suc i) us) (walked (get_or us i d) w), le)

pub wires_at : (us : List Op) (i : ℕ) (d : Op) (n m : ℕ) → n ≤ m → i < length us → WiresBelow n us → WiresBelow m (get_or us i d ∷ [])
wires_at [] i d n m le h w = absurd (omega arith)
wires_at (U a b c q ∷ us) zero d n m le h w = (omega (arith, w.0), tt)
wires_at (Cx c t ∷ us) zero d n m le h w = (omega (arith, w.0), (omega (arith, w.1.0), tt))
wires_at (U a b c q ∷ us) (suc i) d n m le h w = wires_at us i d n m le (omega arith) w.1
wires_at (Cx c t ∷ us) (suc i) d n m le h w = wires_at us i d n m le (omega arith) w.1.1
