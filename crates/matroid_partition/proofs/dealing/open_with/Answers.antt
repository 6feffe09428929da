use Rattle.std.proofs.Common.{◌≡◌, get_or, refl, ap, ◌∙◌}
use Rattle.std.proofs.lemmas.List.{get_or_read}
use Rattle.matroid_partition.specs.Arrangements.{rows_with}
use Rattle.matroid_partition.proofs.DealingLaws.{held-more}
use Rattle.matroid_partition.proofs.dealing.open_with.Goals as goal

pub returns : goal.returns
returns c =
    let is : c.index-rows-place.result ≡ get_or c.args.rows.now c.args.place 0 = get_or_read c.args.rows.now c.args.place c.index-rows-place.result c.requires.there c.index-rows-place.is 0 in
    let e = c.in_ok-begin.ensures.ok in
    record {
      held = held-more c.args.rows.now c.args.dealing.now (record { held = c.begin.new.self; names = c.push.new.self; over = c.args.dealing.now.over }) c.args.place c.requires.held
          (e.rows ∙ ap (rows_with c.args.dealing.now.held) is) c.in_ok-push.ensures.items;
      names = c.in_ok-push.ensures.items;
      over = refl;
      all = e.all;
      blocks = e.blocks;
    }
