-- Counts of the gates on a wire, place by place: what the tests' walks need.
--   count_drop     one place more
--   count_quiet    past places of gates that are not on the wire
--   count_end      behind the last gate on the wire
use Rattle.std.proofs.Common.{◌≡◌, ℕ, zero, suc, ◌+◌, ◌-◌, ◌<◌, ◌≤◌, true, false, cond, List, [], ◌∷◌, refl, sym, ap, ◌∙◌, arith, drop, length, zero-add, add-zero}
use Rattle.std.specs.List.{count_by}
use Rattle.std.proofs.lemmas.List.Sums.{sum_by-cons}
use Rattle.std.proofs.Math.ListN.{drop_of_length-le}
use Rattle.circuit_list.specs.declared.Gate.{Gate}
use Rattle.circuit_list.specs.Gates.{is_on}
use Rattle.circuit_list.specs.Slots.{is_on_at}

pub count_drop : (w k : ℕ) (gs : List Gate) → count_by (is_on w) (drop k gs) ≡ cond (is_on_at w gs k) 1 0 + count_by (is_on w) (drop (suc k) gs)
count_drop w zero [] = refl
count_drop w (suc k) [] = refl
count_drop w zero (g ∷ gs) = sum_by-cons (λ (x : Gate). cond (is_on w x) 1 0) g gs
count_drop w (suc k) (g ∷ gs) = count_drop w k gs

pub count_quiet : (w n k : ℕ) (gs : List Gate) → ((m : ℕ) → k ≤ m → m < k + n → is_on_at w gs m ≡ false)
    → count_by (is_on w) (drop k gs) ≡ count_by (is_on w) (drop (k + n) gs)
count_quiet w zero k gs off = ap (λ m. count_by (is_on w) (drop m gs)) (sym (add-zero k))
count_quiet w (suc n) k gs off =
    let same : suc k + n ≡ k + suc n = omega arith in
    count_drop w k gs ∙ ap (λ b. cond b 1 0 + count_by (is_on w) (drop (suc k) gs)) (off k (omega arith) (omega arith))
    ∙ zero-add (count_by (is_on w) (drop (suc k) gs))
    ∙ count_quiet w n (suc k) gs (λ m le lt. off m (omega arith) (omega arith))
    ∙ ap (λ m. count_by (is_on w) (drop m gs)) same

pub count_here : (w j : ℕ) (gs : List Gate) → is_on_at w gs j ≡ true → count_by (is_on w) (drop j gs) ≡ 1 + count_by (is_on w) (drop (j + 1) gs)
count_here w j gs on =
    count_drop w j gs ∙ ap (λ b. cond b 1 0 + count_by (is_on w) (drop (suc j) gs)) on ∙ ap (λ m. 1 + count_by (is_on w) (drop m gs)) (let e : suc j ≡ j + 1 = omega arith in e)

pub count_next : (w i j : ℕ) (gs : List Gate) → i < j → ((k : ℕ) → i < k → k < j → is_on_at w gs k ≡ false) → is_on_at w gs j ≡ true
    → count_by (is_on w) (drop (i + 1) gs) ≡ 1 + count_by (is_on w) (drop (j + 1) gs)
count_next w i j gs lt off on =
    let here : i + 1 + (j - (i + 1)) ≡ j = omega arith in
    count_quiet w (j - (i + 1)) (i + 1) gs (λ m le below. off m (omega arith) (omega arith))
    ∙ ap (λ m. count_by (is_on w) (drop m gs)) here ∙ count_here w j gs on

pub count_end : (w i : ℕ) (gs : List Gate) → ((k : ℕ) → i < k → is_on_at w gs k ≡ false) → count_by (is_on w) (drop (i + 1) gs) ≡ 0
count_end w i gs off =
    count_quiet w (length gs) (i + 1) gs (λ m le lt. off m (omega arith))
    ∙ ap (count_by (is_on w)) (drop_of_length-le gs (let e : length gs ≤ i + 1 + length gs = omega arith in e))
