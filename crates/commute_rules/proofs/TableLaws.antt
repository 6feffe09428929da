-- The tables in any list of gates.
--   ops-append       joined lists, as operations
--   ops_inside       a step of gates inside a list
--   Below            the law of `fine_below`: fine gates are operations on wires that are there
--   commuting_in, cancelling_in, merging_in     the laws of the tables, from it
use Rattle.std.proofs.Common.{◌≡◌, ℕ, true, List, [], ◌∷◌, ◌++◌, refl, sym, subst, ◌∙◌, ap, All}
use Rattle.std.proofs.lemmas.List.Elements.{All-append, All-from_recursion, recursion_from_All}
use Rattle.circuit_list.specs.declared.Gate.{Gate}
use Rattle.circuit_list.specs.Gates.{IsFine, op_of, ops}
use Rattle.unitary_model.specs.Operations.{WiresBelow}
use Rattle.unitary_model.specs.SameUpTo.{SameUpTo}
use Rattle.unitary_model.proofs.Steps.{Step, Step_inside, Step-amplitude}
use Rattle.commute_rules.specs.declared.Cancel.TheVariants.{Both, Merge}
use Rattle.commute_rules.specs.Commutes.{commutes}
use Rattle.commute_rules.specs.Cancels.{cancel_of, with_phase}
use Rattle.commute_rules.proofs.CommuteLaws.{commute_step, fine_apart}
use Rattle.commute_rules.proofs.CancelLaws.{cancel_step, merge_step, merge_fine}

pub ops-append : (A B : List Gate) → ops (A ++ B) ≡ ops A ++ ops B
ops-append [] B = refl
ops-append (g ∷ A) B = ap (λ us. op_of g ∷ us) (ops-append A B)

pub ops_inside : (k : ℕ) (before A B after : List Gate) → Step k (ops A) (ops B) → Step k (ops (before ++ (A ++ after))) (ops (before ++ (B ++ after)))
ops_inside k before A B after s =
    subst (λ us. Step k us (ops (before ++ (B ++ after)))) (sym (three A))
    (subst (Step k (ops before ++ (ops A ++ ops after))) (sym (three B)) (Step_inside k (ops before) (ops A) (ops B) (ops after) s))
  where
    three : (C : List Gate) → ops (before ++ (C ++ after)) ≡ ops before ++ (ops C ++ ops after)
    three C = ops-append before (C ++ after) ∙ ap (λ us. ops before ++ us) (ops-append C after)

-- two gates in a fine list
fine_two : (n : ℕ) (before after : List Gate) (g h : Gate) → All (IsFine n) before → All (IsFine n) after → IsFine n g → IsFine n h → All (IsFine n) (before ++ (g ∷ h ∷ after))
fine_two n before after g h b a p q = All-append (IsFine n) before (g ∷ h ∷ after) b (All-from_recursion (IsFine n) (g ∷ h ∷ after) (p, (q, recursion_from_All (IsFine n) after a)))

fine_one : (n : ℕ) (before after : List Gate) (g : Gate) → All (IsFine n) before → All (IsFine n) after → IsFine n g → All (IsFine n) (before ++ (g ∷ after))
fine_one n before after g b a p = All-append (IsFine n) before (g ∷ after) b (All-from_recursion (IsFine n) (g ∷ after) (p, recursion_from_All (IsFine n) after a))

abbrev pub Below : Type 0
Below = (n : ℕ) (gs : List Gate) → All (IsFine n) gs → WiresBelow n (ops gs)

pub commuting_in : Below → (n : ℕ) (before after : List Gate) (g h : Gate) → All (IsFine n) before → All (IsFine n) after → IsFine n g → IsFine n h → commutes g h ≡ true →
    SameUpTo 0 n (ops (before ++ (g ∷ h ∷ after))) (ops (before ++ (h ∷ g ∷ after)))
commuting_in below n before after g h b a p q e =
    Step-amplitude 0 n _ _ (below n _ (fine_two n before after g h b a p q)) (below n _ (fine_two n before after h g b a q p))
    (ops_inside 0 before (g ∷ h ∷ []) (h ∷ g ∷ []) after (commute_step g h e (fine_apart n g p) (fine_apart n h q)))

pub cancelling_in : Below → (n turn : ℕ) (before after : List Gate) (g h : Gate) → All (IsFine n) before → All (IsFine n) after → IsFine n g → IsFine n h → cancel_of g h ≡ Both turn →
    SameUpTo turn n (ops (before ++ (g ∷ h ∷ after))) (ops (before ++ after))
cancelling_in below n turn before after g h b a p q e =
    Step-amplitude turn n _ _ (below n _ (fine_two n before after g h b a p q)) (below n _ (All-append (IsFine n) before after b a))
    (ops_inside turn before (g ∷ h ∷ []) [] after (cancel_step g h turn e (fine_apart n g p)))

pub merging_in : Below → (n k : ℕ) (before after : List Gate) (g h : Gate) → All (IsFine n) before → All (IsFine n) after → IsFine n g → IsFine n h → cancel_of g h ≡ Merge k →
    SameUpTo 0 n (ops (before ++ (g ∷ h ∷ after))) (ops (before ++ (with_phase k g ∷ after)))
merging_in below n k before after g h b a p q e =
    Step-amplitude 0 n _ _ (below n _ (fine_two n before after g h b a p q)) (below n _ (fine_one n before after (with_phase k g) b a (merge_fine n g h k e p)))
    (ops_inside 0 before (g ∷ h ∷ []) (with_phase k g ∷ []) after (merge_step g h k e))
