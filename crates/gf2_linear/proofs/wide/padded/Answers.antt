use Rattle.std.proofs.Common.{◌≡◌, ◌+◌, ◌-◌, ◌++◌, ◌∷◌, [], ℕ, List, length, replicate, ap, ◌∙◌, arith}
use Rattle.std.proofs.lemmas.List.{append_assoc, replicate_more}
use Rattle.gf2_linear.proofs.wide.padded.Goals as goal

pub spares-preserved : goal.spares-preserved
spares-preserved c =
    let rows : List ℕ = c.args.rows.items in
    let n : ℕ = c.spares.counter - length c.args.rows.items in
    let next : n + 1 ≡ c.spares.counter + 1 - length c.args.rows.items = omega (arith, c.spares.invariant.start) in
    record {
      start = omega (arith, c.spares.invariant.start);
      rows = c.in_ok-push.ensures.items ∙ (λ i. c.spares.invariant.rows i ++ c.empty.ensures.value i ∷ []) ∙ append_assoc rows (replicate n 0) (0 ∷ [])
          ∙ ap (λ (q : List ℕ). rows ++ q) (replicate_more n 0) ∙ ap (λ k. rows ++ replicate k 0) next;
    }
