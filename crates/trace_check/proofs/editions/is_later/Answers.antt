use Rattle.std.proofs.Common.{◌≡◌, ◌∙◌, ℕ, List, [], ◌∷◌, ◌||◌, Bool, true, false, ap, refl, sym}
use Rattle.std.specs.Prelude.{codes}
use Rattle.std.specs.List.{list_any}
use Rattle.trace_text.specs.Texts.{begins}
use Rattle.trace_check.proofs.editions.is_later.Goals as goal

split : (a b c r : Bool) → (a || (b || (c || r))) ≡ ((a || (b || (c || false))) || r)
split true b c r = refl
split false true c r = refl
split false false true r = refl
split false false false r = refl

any_split : (l : List ℕ) → list_any (λ w. begins w l) (codes "part" ∷ codes "phases" ∷ codes "goal" ∷ codes "meet" ∷ codes "elide" ∷ []) ≡
    (list_any (λ w. begins w l) (codes "part" ∷ codes "phases" ∷ codes "goal" ∷ []) || list_any (λ w. begins w l) (codes "meet" ∷ codes "elide" ∷ []))
any_split l = split (begins (codes "part") l) (begins (codes "phases") l) (begins (codes "goal") l) (list_any (λ w. begins w l) (codes "meet" ∷ codes "elide" ∷ []))

pub returns-then-lists_later : goal.returns-then-lists_later
returns-then-lists_later c = ap (λ b. b || list_any (λ w. begins w c.args.line.now) (codes "meet" ∷ codes "elide" ∷ [])) c.if-lists_later.ensures ∙ sym (any_split c.args.line.now)

pub returns : goal.returns
returns c =
    c.tells_later.ensures ∙ ap (λ b. b || list_any (λ w. begins w c.args.line.now) (codes "meet" ∷ codes "elide" ∷ [])) c.if-lists_later.ensures
    ∙ sym (any_split c.args.line.now)
