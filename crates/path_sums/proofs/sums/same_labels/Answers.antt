-- One label more.
use Rattle.std.proofs.Common.{◌≡◌, ◌<◌, map, length, refl, sym, ◌∙◌, arith, below_more, true≢false}
use Rattle.path_parity.specs.LabelWalks.{labels_of_list}
use Rattle.path_parity.specs.Sets.{label_of}
use Rattle.path_sums.proofs.NameLaws.{label-here}
use Rattle.path_sums.proofs.sums.same_labels.Goals as goal

pub returns-then-not-same_label : goal.returns-then-not-same_label
returns-then-not-same_label c =
    let ls = c.args.left.now in
    let rs = c.args.right.now in
    let q = c.wires.q in
    let lt : q < length rs = omega (arith, c.requires.long) in (
      λ t. absurd (true≢false (sym t)),
      λ h. c.if-not-same_label.ensures.1 (label-here ls q c.index-left-q.result c.wires-test.true c.index-left-q.is ∙ h q c.wires-test.true ∙ sym (label-here rs q c.index-right-q.result lt c.index-right-q.is)),
    )

pub wires-preserved : goal.wires-preserved
wires-preserved c =
    let ls = c.args.left.now in
    let rs = c.args.right.now in
    let q = c.wires.q in
    let lt : q < length rs = omega (arith, c.requires.long) in
    below_more (λ p. labels_of_list (map label_of ls) p ≡ labels_of_list (map label_of rs) p) q c.wires.invariant
    (sym (label-here ls q c.index-left-q.result c.wires-test.true c.index-left-q.is) ∙ c.if-not-same_label.ensures.0 refl ∙ label-here rs q c.index-right-q.result lt c.index-right-q.is)
