-- The terms have the phase of the sets.
use Rattle.std.proofs.Common.{◌≡◌, ℕ, ◌%◌, IfOk, List, ap, map, sym, subst, ◌∙◌}
use Rattle.std.specs.Prelude.{◌↔◌, IsTrue}
use Rattle.unitary_model.specs.Acts.{Bits}
use Rattle.path_parity.specs.PathFunctions.{Vanishes, phase}
use Rattle.path_sums.specs.Terms.{term_of}
use Rattle.path_sums.specs.Sums.{Collected, sums_of}
use Rattle.path_sums.proofs.RowLaws.{IfOk-more}
use Rattle.path_sums.proofs.sums.Totals.vanish.Goals as goal

pub returns : goal.returns
returns c =
    let es : List (ℕ × ℕ) = sums_of c.self.inside.sets.entries in
    let same : (u : Bits) → phase (map term_of c.deref.result.now) u ≡ phase es u = λ u. ap (λ ts. phase (map term_of ts) u) c.deref.ensures.value ∙ c.in_ok-terms.ensures.same u in
    subst (λ (z : Collected). IfOk c.vanish.result (λ b. IsTrue b ↔ Vanishes z.sets)) c.self.view_is
    (IfOk-more c.vanish.result (λ b. IsTrue b ↔ Vanishes (map term_of c.deref.result.now)) (λ b. IsTrue b ↔ Vanishes es) c.vanish.ensures.exact
    (λ b h. ((λ t u. ap (λ k. k % 8) (sym (same u)) ∙ h.0 t u), (λ none. h.1 (λ u. ap (λ k. k % 8) (same u) ∙ none u)))))
