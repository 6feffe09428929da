use Rattle.std.proofs.Common.{◌∙◌, get_or, ap}
use Rattle.std.specs.Prelude.{nat_eq}
use Rattle.std.proofs.lemmas.Bool.{eq-eqb, ne_eqb}
use Rattle.matroid_partition.proofs.OpenLaws.{filter-range_in, filter-range_out}
use Rattle.matroid_partition.proofs.dealt.members.Goals as goal
use Rattle.matroid_partition.proofs.dealt.members.Goals.{then-home-number+in_ok-push, else-home-number}

pub homes-preserved : goal.homes-preserved
homes-preserved c =
    elim c.if-home-number.branch [
      | then-home-number+in_ok-push w ↦ filter-range_in (λ p. nat_eq (get_or c.args.homes.now p 0) c.args.number) c.homes.place c.homes.places.items c.if-home-number.places.items
          (eq-eqb (get_or c.args.homes.now c.homes.place 0) c.args.number w.if-home-number.true) c.homes.invariant (ap (λ v. v.items) w.places-is ∙ w.in_ok-push.ensures.items)
      | else-home-number w ↦ filter-range_out (λ p. nat_eq (get_or c.args.homes.now p 0) c.args.number) c.homes.place c.homes.places.items c.if-home-number.places.items
          (ne_eqb (get_or c.args.homes.now c.homes.place 0) c.args.number w.if-home-number.false) c.homes.invariant (ap (λ v. v.items) w.places-is)
    ]
