-- Edits from the last place to the first.
--     edited_none     no edit
--     edited_more     one edit more, before the others
--     either_order    two gates that are taken, by their places in either order
use Rattle.std.proofs.Common.{◌≡◌, ◌≢◌, ◌⊎◌, inl, inr, ℕ, zero, suc, ◌+◌, ◌<◌, ◌≤◌, true, false, cond, List, [], ◌∷◌, ◌++◌, length, refl, sym, ◌∙◌, ap, arith, Option, None, Some}
use Rattle.std.specs.Prelude.{nat_eq, min, max}
use Rattle.std.specs.List.{AllByRecursion}
use Rattle.std.proofs.lemmas.Bool.Decides.{nat_tests}
use Rattle.circuit_list.specs.declared.Gate.{Gate}
use Rattle.rewrite_pass.specs.declared.rule.Edit.{Edit}
use Rattle.rewrite_pass.specs.declared.rule.Change.{Change}
use Rattle.rewrite_pass.specs.Edits.{put_at, instead, changed_from}
use Rattle.rewrite_pass.specs.Traces.{edited}
use Rattle.rewrite_pass.proofs.EditLaws.{untouched}
use Rattle.rewrite_pass.proofs.TraceLaws.{swap}
use Rattle.rewrite_steps.specs.RuleWindows.{edit, put_gates}

abbrev all : List Edit → Change
all es = record { edits = es; count = length es; turn = 0 }

-- the edits are behind a place
abbrev pub Behind : ℕ → List Edit → Type 0
Behind p es = AllByRecursion (λ (d : Edit). p < d.place) es

missed : (a b : ℕ) → a ≢ b → nat_eq a b ≡ false
missed a b f = grind (arith, nat_tests)

found : (a b : ℕ) → a ≡ b → nat_eq a b ≡ true
found a b f = grind (arith, nat_tests)

pub edited_none : (gs : List Gate) → gs ≡ edited [] gs
edited_none gs = sym (untouched (all []) 0 gs (λ k a b. refl))

nothing : (p k : ℕ) (es : List Edit) → Behind p es → k ≤ p → put_at es (length es) k ≡ None
nothing p k [] h le = refl
nothing p k (e ∷ es) h le = ap (λ b. cond b (Some e.put) (put_at es (length es) k)) (missed e.place k (λ f. absurd (omega (arith, h.0)))) ∙ nothing p k es h.1 le

off : (p k : ℕ) (o : Option Gate) (es : List Edit) → p ≢ k → put_at (edit p o ∷ es) (suc (length es)) k ≡ put_at es (length es) k
off p k o es h = ap (λ b. cond b (Some o) (put_at es (length es) k)) (missed p k h)

past : (p i : ℕ) (o : Option Gate) (es : List Edit) (gs : List Gate) → p < i → changed_from (all es) i gs ≡ changed_from (all (edit p o ∷ es)) i gs
past p i o es [] lt = refl
past p i o es (g ∷ gs) lt = λ z. instead (sym (off p i o es (λ f. absurd (omega arith))) z) g ++ past p (i + 1) o es gs (omega arith) z

here : (o : Option Gate) (g : Gate) (xs : List Gate) → put_gates o 0 (g ∷ xs) ≡ instead (Some o) g ++ xs
here None g xs = refl
here (Some h) g xs = refl

later : (o : Option Gate) (q : ℕ) (g : Gate) (xs : List Gate) → put_gates o (suc q) (g ∷ xs) ≡ g ∷ put_gates o q xs
later None q g xs = refl
later (Some h) q g xs = refl

more : (p i q : ℕ) (o : Option Gate) (es : List Edit) (gs : List Gate) → Behind p es → p ≡ i + q → q < length gs
    → put_gates o q (changed_from (all es) i gs) ≡ changed_from (all (edit p o ∷ es)) i gs
more p i q o es [] h e lt = absurd (omega arith)
more p i zero o es (g ∷ gs) h e lt =
    (λ z. put_gates o 0 (instead (nothing p i es h (omega arith) z) g ++ past p (i + 1) o es gs (omega arith) z))
    ∙ here o g (changed_from (all (edit p o ∷ es)) (i + 1) gs)
    ∙ ap (λ b. instead (cond b (Some o) (put_at es (length es) i)) g ++ changed_from (all (edit p o ∷ es)) (i + 1) gs) (sym (found p i (omega arith)))
more p i (suc q) o es (g ∷ gs) h e lt =
    ap (λ x. put_gates o (suc q) (instead x g ++ changed_from (all es) (i + 1) gs)) (nothing p i es h (omega arith))
    ∙ later o q g (changed_from (all es) (i + 1) gs)
    ∙ (λ z. instead (sym (off p i o es (λ f. absurd (omega arith)) ∙ nothing p i es h (omega arith)) z) g ++ more p (i + 1) q o es gs h (omega arith) (omega arith) z)

pub edited_more : (p : ℕ) (o : Option Gate) (es : List Edit) (gs old new : List Gate) → Behind p es → p < length gs → old ≡ edited es gs → new ≡ put_gates o p old → new ≡ edited (edit p o ∷ es) gs
edited_more p o es gs old new h lt e f = f ∙ ap (put_gates o p) e ∙ more p 0 p o es gs h (omega arith) lt

pub either_order : (d e k : ℕ) (x : Option (Option Gate)) → cond (nat_eq (min d e) k) (Some None) (cond (nat_eq (max d e) k) (Some None) x) ≡ cond (nat_eq d k) (Some None) (cond (nat_eq e k) (Some None) x)
either_order d e k x = go (order d e)
  where
    order : (a b : ℕ) → (a ≤ b) ⊎ (b ≤ a)
    order a b = grind arith

    taken_at : ℕ → Option (Option Gate) → Option (Option Gate)
    taken_at p y = cond (nat_eq p k) (Some None) y

    go : (d ≤ e) ⊎ (e ≤ d) → taken_at (min d e) (taken_at (max d e) x) ≡ taken_at d (taken_at e x)
    go (inl le) =
        let low : min d e ≡ d = omega arith in
        let high : max d e ≡ e = omega arith in
        λ z. taken_at (low z) (taken_at (high z) x)
    go (inr le) =
        let low : min d e ≡ e = omega arith in
        let high : max d e ≡ d = omega arith in
        (λ z. taken_at (low z) (taken_at (high z) x)) ∙ swap (nat_eq e k) (nat_eq d k) x
