-- Each wire so far has its own variable.
use Rattle.std.proofs.Common.{◌≡◌, ◌∷◌, [], ◌++◌, All, length, map, take_all, sym, subst, ◌∙◌, ap, arith, length-append}
use Rattle.std.proofs.lemmas.List.{map-append, map_more}
use Rattle.std.proofs.lemmas.List.Elements.{All-push}
use Rattle.path_parity.specs.PathSum.{fresh}
use Rattle.path_parity.specs.Sets.{IsLabel, label_of}
use Rattle.path_sums.proofs.sums.first_labels.Goals as goal

pub wires-preserved : goal.wires-preserved
wires-preserved c =
    let old = c.wires.labels.items in
    let l = c.in_ok-fresh.field-0 in
    let ws = c.args.wires.now in
    let i = c.wires.place in
    let items : c.push.new.self.items ≡ old ++ l ∷ [] = c.in_ok-push.ensures.items in
    record {
      wires = ap length items ∙ omega (arith, length-append old (l ∷ []), c.wires.invariant.wires);
      labels = ap (map label_of) items ∙ map-append label_of old (l ∷ [])
          ∙ (λ j. c.wires.invariant.labels j ++ c.in_ok-fresh.ensures.label j ∷ [])
          ∙ sym (map_more fresh ws i 0 c.wires-test.true);
      packed = subst (All IsLabel) (sym items) (All-push IsLabel old l c.wires.invariant.packed c.in_ok-fresh.ensures.packed);
    }

pub returns : goal.returns
returns c =
    let ws = c.args.wires.now in
    record {
      wires = omega (arith, c.wires.invariant.wires);
      labels = c.wires.invariant.labels ∙ ap (map fresh) (take_all c.wires.place ws (omega arith));
      packed = c.wires.invariant.packed;
    }
