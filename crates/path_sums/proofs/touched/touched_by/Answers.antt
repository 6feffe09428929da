-- The wires of both were put in.
use Rattle.std.proofs.Common.{◌≡◌, ◌<◌, [], All, sym, subst, ◌∙◌, ap}
use Rattle.std.specs.Prelude.{nat_eq}
use Rattle.circuit_list.specs.Gates.{IsFine}
use Rattle.indexmap.specs.IndexSet.{insert_all}
use Rattle.path_sums.specs.Names.{wires_touched}
use Rattle.path_sums.proofs.NamingLaws.{named-both}
use Rattle.path_sums.proofs.TouchedLaws.{below-all}
use Rattle.path_sums.proofs.touched.touched_by.Goals as goal

pub returns : goal.returns
returns c =
    let n = c.args.old.now.wires in
    let A = c.args.old.now.gates in
    let B = c.args.new.now.gates in
    let one = c.touch_wires.new.touched.keys in
    let two = c.touch_wires-2.new.touched.keys in
    let first : one ≡ insert_all nat_eq [] (wires_touched A) = c.in_ok-touch_wires.ensures ∙ ap (λ ws. insert_all nat_eq ws (wires_touched A)) c.new-touched.ensures.empty in
    let fine : All (IsFine n) B = subst (λ k. All (IsFine k) B) (sym c.requires) c.facts-2.ensures.fine in
    let named = named-both [] one two (wires_touched A) (wires_touched B) first c.in_ok-touch_wires-2.ensures in
    let below = below-all n one two A B c.facts.ensures.fine fine first c.in_ok-touch_wires-2.ensures in
    record {
      old = named.0;
      new = named.1;
      distinct = c.len-different.ensures.unique;
      below = below;
      within = subst (λ k. All (λ q. q < k) two) c.requires below;
    }
