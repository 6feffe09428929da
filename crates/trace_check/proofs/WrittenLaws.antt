-- What was appended, held against the target's gates.
--     grows-none, grows-join      nothing more, and one after the other
--     grows-next, grows-all       a list gate by gate
--     grows-same          the target's next gate
--     grows-other         another gate
--     grows-past          gates behind another one
--     ended               all of the target's gates
--     unended             not all of them, or other ones
use Rattle.std.proofs.Common.{◌≡◌, ℕ, zero, suc, ◌+◌, ◌<◌, ◌≤◌, List, [], ◌∷◌, ◌++◌, Option, None, Some, length, get_or, take, slice_get, refl, sym, subst, ◌∙◌, ap, arith, append_assoc, append-nil}
use Rattle.std.proofs.lemmas.List.{length-take-le, take_all, take_more}
use Rattle.std.proofs.lemmas.Option.{slice_get_within}
use Rattle.circuit_list.specs.declared.Gate.{Gate}
use Rattle.rewrite_pass.proofs.ListLaws.{take-next}
use Rattle.trace_check.specs.Progress.{Grows, IsAppended}

pub grows-none : (goal : List Gate) (k : Option ℕ) → Grows goal k [] k
grows-none goal k written h = subst (IsAppended goal k) (sym (append-nil written)) h

pub grows-join : (goal : List Gate) (i j k : Option ℕ) (xs ys : List Gate) → Grows goal i xs j → Grows goal j ys k → Grows goal i (xs ++ ys) k
grows-join goal i j k xs ys f g written h = subst (IsAppended goal k) (append_assoc written xs ys) (g (written ++ xs) (f written h))

pub grows-next : (goal gates : List Gate) (i j k : Option ℕ) (place : ℕ) (d : Gate) → place < length gates → Grows goal i (take place gates) j → Grows goal j (get_or gates place d ∷ []) k →
    Grows goal i (take (place + 1) gates) k
grows-next goal gates i j k place d lt f g written h =
    subst (λ gs. IsAppended goal k (written ++ gs)) (sym (take_more gates place d lt)) (grows-join goal i j k (take place gates) (get_or gates place d ∷ []) f g written h)

pub grows-all : (goal gates : List Gate) (i k : Option ℕ) (place : ℕ) → length gates ≤ place → Grows goal i (take place gates) k → Grows goal i gates k
grows-all goal gates i k place le f written h = subst (λ gs. IsAppended goal k (written ++ gs)) (take_all place gates le) (f written h)

pub grows-same : (goal : List Gate) (k : ℕ) (g : Gate) → slice_get goal k ≡ Some g → Grows goal (Some k) (g ∷ []) (Some (k + 1))
grows-same goal k g there written h =
    let lt = slice_get_within goal k g there in
    (omega (arith, lt), ap (λ ws. ws ++ g ∷ []) h.1 ∙ sym (take-next goal k g there))

at_end : (goal more : List Gate) (k : ℕ) (g : Gate) → k ≤ length goal → slice_get ((take k goal ++ g ∷ []) ++ more) k ≡ Some g
at_end [] more zero g le = refl
at_end [] more (suc k) g le = absurd (omega (arith, le))
at_end (x ∷ goal) more zero g le = refl
at_end (x ∷ goal) more (suc k) g le = at_end goal more k g (omega (arith, le))

pub grows-other : (goal : List Gate) (k : ℕ) (g : Gate) → (slice_get goal k ≡ Some g → ⊥) → Grows goal (Some k) (g ∷ []) None
grows-other goal k g other written h = λ more e.
    other (ap (λ gs. slice_get gs k) (sym e ∙ ap (λ ws. (ws ++ g ∷ []) ++ more) h.1) ∙ at_end goal more k g h.0)

pub grows-past : (goal gates : List Gate) → Grows goal None gates None
grows-past goal gates written h = λ more e. h (gates ++ more) (sym (append_assoc written gates more) ∙ e)

pub ended : (goal written : List Gate) (k : Option ℕ) → k ≡ Some (length goal) → IsAppended goal k written → written ≡ goal
ended goal written k e h = let g : IsAppended goal (Some (length goal)) written = subst (λ j. IsAppended goal j written) e h in g.1 ∙ take_all (length goal) goal (omega arith)

pub unended : (goal written : List Gate) (k : Option ℕ) → (k ≡ Some (length goal) → ⊥) → IsAppended goal k written → written ≡ goal → ⊥
unended goal written None other h e = h [] (append-nil written ∙ e)
unended goal written (Some k) other h e = let long : k ≡ length goal = omega (arith, h.0, length-take-le k goal h.0, ap length (sym h.1 ∙ e)) in other (ap Some long)
