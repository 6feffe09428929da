-- Each total is looked at.
use Rattle.std.proofs.Common.{◌%◌, sym, ◌∙◌, ap}
use Rattle.path_parity.specs.NamedSums.{total}
use Rattle.path_sums.specs.Sums.{Collected}
use Rattle.path_sums.proofs.CollectLaws.{none-sums, sums-none}
use Rattle.path_sums.proofs.sums.Totals.are_none.Goals as goal

pub returns : goal.returns
returns c =
    let es = c.self.inside.sets.entries in (
      λ t m. ap (λ (z : Collected). total m z.sets % 8) (sym c.self.view_is) ∙ ap (λ k. k % 8) (sums-none es m (c.are_zero.ensures.zero.0 t)),
      λ h. c.are_zero.ensures.zero.1 (none-sums es c.self.invariant c.are_zero.ensures.distinct (λ m. ap (λ (z : Collected). total m z.sets % 8) c.self.view_is ∙ h m)),
    )
