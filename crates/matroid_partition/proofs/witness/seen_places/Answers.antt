use Rattle.std.proofs.Common.{◌∙◌, false, get_or, ap}
use Rattle.matroid_partition.proofs.OpenLaws.{filter-range_in, filter-range_out}
use Rattle.matroid_partition.proofs.witness.seen_places.Goals as goal
use Rattle.matroid_partition.proofs.witness.seen_places.Goals.{then-is_seen+in_ok-push, else-is_seen}

pub places-preserved : goal.places-preserved
places-preserved c =
    elim c.if-is_seen.branch [
      | then-is_seen+in_ok-push w ↦ filter-range_in (λ p. get_or c.args.seen.now p false) c.places.place c.places.places.items c.if-is_seen.places.items w.if-is_seen.true c.places.invariant
          (ap (λ v. v.items) w.places-is ∙ w.in_ok-push.ensures.items)
      | else-is_seen w ↦ filter-range_out (λ p. get_or c.args.seen.now p false) c.places.place c.places.places.items c.if-is_seen.places.items w.if-is_seen.false c.places.invariant
          (ap (λ v. v.items) w.places-is)
    ]
