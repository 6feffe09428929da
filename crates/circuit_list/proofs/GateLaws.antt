-- A circuit's gates as operations: counts, wires, plainness.
--   t_count-ops, cx_count-ops     the counts of the operations are counts of gates
--   ops-joined                    joined lists
--   WiresBelow-ops, IsPlain-ops   a circuit's operations are plain ones on its wires
use Rattle.std.proofs.Common.{◌≡◌, ℕ, ◌+◌, ◌%◌, cond, List, [], ◌∷◌, ◌++◌, refl, sym, ap, ◌∙◌, arith, inl, inr, All, nat_eq, zero-add, one-add}
use Rattle.std.specs.List.{count_by, AllByRecursion}
use Rattle.std.proofs.lemmas.List.Sums.{sum_by-cons}
use Rattle.std.proofs.lemmas.List.Elements.{recursion_from_All, All-from_recursion}
use Rattle.circuit_list.specs.declared.Gate.{Gate}
use Rattle.circuit_list.specs.declared.Gate.TheVariants.{H, X, P, Cx}
use Rattle.circuit_list.specs.Gates.{IsFine, is_cx, is_t, op_of, ops}
use Rattle.unitary_model.specs.Operations.{IsPlain, WiresBelow, cx_count, t_count}

odd_phase : (k : ℕ) → cond (nat_eq (k % 2) 1) 1 0 ≡ k % 2
odd_phase k = grind arith

pub t_count-ops : (gs : List Gate) → count_by is_t gs ≡ t_count (ops gs)
t_count-ops [] = refl
t_count-ops (H q ∷ gs) = t_count-ops gs ∙ sym (zero-add (t_count (ops gs)))
t_count-ops (X q ∷ gs) = t_count-ops gs ∙ sym (zero-add (t_count (ops gs)))
t_count-ops (P k q ∷ gs) =
    let front = sum_by-cons (λ g. cond (is_t g) 1 0) (P k q) gs in
    let rest = t_count-ops gs in
    let odd = odd_phase k in
    let plain : (0 + k) % 2 ≡ k % 2 = rw zero-add refl in
    cc
t_count-ops (Cx c t ∷ gs) = t_count-ops gs

pub cx_count-ops : (gs : List Gate) → count_by is_cx gs ≡ cx_count (ops gs)
cx_count-ops [] = refl
cx_count-ops (H q ∷ gs) = cx_count-ops gs
cx_count-ops (X q ∷ gs) = cx_count-ops gs
cx_count-ops (P k q ∷ gs) = cx_count-ops gs
cx_count-ops (Cx c t ∷ gs) =
    let front = sum_by-cons (λ g. cond (is_cx g) 1 0) (Cx c t) gs in
    front ∙ ap (λ n. 1 + n) (cx_count-ops gs) ∙ one-add (cx_count (ops gs))

pub ops-joined : (gs hs : List Gate) → ops (gs ++ hs) ≡ ops gs ++ ops hs
ops-joined [] hs = refl
ops-joined (g ∷ gs) hs = ap (λ us. op_of g ∷ us) (ops-joined gs hs)

wires_of_recursion : (n : ℕ) (gs : List Gate) → AllByRecursion (IsFine n) gs → WiresBelow n (ops gs)
wires_of_recursion n [] h = tt
wires_of_recursion n (H q ∷ gs) h = (h.0, wires_of_recursion n gs h.1)
wires_of_recursion n (X q ∷ gs) h = (h.0, wires_of_recursion n gs h.1)
wires_of_recursion n (P k q ∷ gs) h = (h.0.0, wires_of_recursion n gs h.1)
wires_of_recursion n (Cx c t ∷ gs) h = (h.0.0, (h.0.1.0, wires_of_recursion n gs h.1))

pub WiresBelow-ops : (n : ℕ) (gs : List Gate) → All (IsFine n) gs → WiresBelow n (ops gs)
WiresBelow-ops n gs h = wires_of_recursion n gs (recursion_from_All (IsFine n) gs h)

plain_op : (n : ℕ) (g : Gate) → IsFine n g → IsPlain (op_of g)
plain_op n (H q) h = inl (refl, refl, refl)
plain_op n (X q) h = inr (inl (refl, refl, refl))
plain_op n (P k q) h = inr (inr (refl, refl, h.1.0, h.1.1))
plain_op n (Cx c t) h = tt

plain_of_recursion : (n : ℕ) (gs : List Gate) → AllByRecursion (IsFine n) gs → AllByRecursion IsPlain (ops gs)
plain_of_recursion n [] h = tt
plain_of_recursion n (g ∷ gs) h = (plain_op n g h.0, plain_of_recursion n gs h.1)

pub IsPlain-ops : (n : ℕ) (gs : List Gate) → All (IsFine n) gs → All IsPlain (ops gs)
IsPlain-ops n gs h = All-from_recursion IsPlain (ops gs) (plain_of_recursion n gs (recursion_from_All (IsFine n) gs h))

pub ruleset gate_laws = (t_count-ops, cx_count-ops)
