use Rattle.std.proofs.Common.{◌≡◌, Some, slice_get, sym, ◌∙◌, ap, option_map}
use Rattle.std.specs.Map.Iter.{deref_pair}
use Rattle.phase_poly.proofs.TermLaws.{filter-next}
use Rattle.phase_poly.proofs.walk.nonzero.Goals as goal

pub terms-preserved : goal.terms-preserved
terms-preserved c =
    let entry : slice_get c.args.terms.now.entries c.terms.i ≡ Some (c.unwrap.result.0.now, c.unwrap.result.1.now) = sym c.get_index.ensures.entry ∙ ap (option_map deref_pair) c.unwrap.ensures in
    filter-next c.args.terms.now.entries c.terms.i (c.unwrap.result.0.now, c.unwrap.result.1.now) c.terms.kept.items c.keep.new.kept.items entry c.terms.invariant c.in_ok-keep.ensures
