use Rattle.std.proofs.Common.{◌++◌, ◌∷◌, [], ℕ, List, replicate, ap, ◌∙◌}
use Rattle.std.proofs.lemmas.List.{append_assoc, replicate_more}
use Rattle.spare_layers.proofs.weaving.spared.Goals as goal

pub spares-preserved : goal.spares-preserved
spares-preserved c =
    let rows : List ℕ = c.args.rows.items in
    c.in_ok-push.ensures.items ∙ (λ i. c.spares.invariant i ++ c.empty.ensures.value i ∷ []) ∙ append_assoc rows (replicate c.spares.counter 0) (0 ∷ [])
    ∙ ap (λ (q : List ℕ). rows ++ q) (replicate_more c.spares.counter 0)
