use Rattle.std.proofs.Common.{◌≡◌, ◌+◌, Bool, List, get_or, refl, subst, sym, ap, ◌∙◌, add-zero, length}
use Rattle.std.proofs.lemmas.List.{get_or_read}
use Rattle.matroid_partition.specs.Arrangements.{Arrangement, rows_with}
use Rattle.matroid_partition.specs.Closed.{IsClosed, seen_by}
use Rattle.matroid_partition.proofs.DealingLaws.{held-more}
use Rattle.matroid_partition.proofs.dealing.offer.Goals as goal

pub returns-in_ok-push-in-None-clause-none : goal.returns-in_ok-push-in-None-clause-none
returns-in_ok-push-in-None-clause-none c =
    let e = rw c.in-None.is at c.in_ok-settle.ensures.none in
    let is : c.index-rows-place.result ≡ get_or c.args.rows.now c.args.place 0 = get_or_read c.args.rows.now c.args.place c.index-rows-place.result c.requires.there c.index-rows-place.is 0 in
    record {
      held = held-more c.args.rows.now c.args.dealing.now (record { held = c.settle.new.self; names = c.push.new.self; over = c.args.dealing.now.over }) c.args.place c.requires.held
          (e.rows ∙ ap (rows_with c.args.dealing.now.held) is) c.in_ok-push-in-None.ensures.items;
      names = c.in_ok-push-in-None.ensures.items;
      over = refl;
      all = e.all;
      blocks = e.blocks ∙ add-zero (length c.args.dealing.now.held.blocks);
    }

pub returns-in_ok-seen-in-Some-clause-some : goal.returns-in_ok-seen-in-Some-clause-some
returns-in_ok-seen-in-Some-clause-some c =
    let same = rw c.in-Some.is at c.in_ok-settle.ensures.same in
    let closed = rw c.in-Some.is at c.in_ok-settle.ensures.closed in
    let o : Arrangement = c.args.dealing.now.held in
    let is : c.index-rows-place.result ≡ get_or c.args.rows.now c.args.place 0 = get_or_read c.args.rows.now c.args.place c.index-rows-place.result c.requires.there c.index-rows-place.is 0 in
    let seen : c.in_ok-seen-in-Some.seen.items ≡ seen_by (length o.homes + 1) c.in-Some.reached = c.in_ok-seen-in-Some.ensures.ok ∙ ap (λ (a : Arrangement). seen_by (length a.homes + 1) c.in-Some.reached) same in
    record {
      same = record { held = same; names = refl; over = refl };
      closed = subst (λ (q : List Bool). IsClosed (rows_with o (get_or c.args.rows.now c.args.place 0)) o.homes o.blocks q) (sym seen)
          (subst (λ x. IsClosed (rows_with o x) o.homes o.blocks (seen_by (length o.homes + 1) c.in-Some.reached)) is closed);
    }
