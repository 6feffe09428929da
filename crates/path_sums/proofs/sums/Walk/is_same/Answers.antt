-- The labels of the wires that are touched, and then of all.
use Rattle.std.proofs.Common.{◌≡◌, ◌<◌, length, map, sym, subst, ◌∙◌, ap, arith, true≢false}
use Rattle.std.proofs.lemmas.List.{length-map}
use Rattle.path_parity.specs.LabelWalks.{labels_of_list}
use Rattle.path_parity.specs.NamedSums.{set_before}
use Rattle.path_parity.specs.Sets.{label_of}
use Rattle.path_sums.specs.Names.{labels_on}
use Rattle.path_sums.specs.Sums.{NamedWalk, labels_in}
use Rattle.path_sums.proofs.TouchedLaws.{on-same, same-on}
use Rattle.path_sums.proofs.sums.Walk.is_same.Goals as goal

pub returns-else-same_sets : goal.returns-else-same_sets
returns-else-same_sets c = (
  λ t. absurd (true≢false (sym t ∙ c.if-same_sets.false)),
  λ h. c.same_sets.ensures.1 (λ v. ap (λ (z : NamedWalk). set_before v z.sets) c.self.view_is ∙ h.sets v ∙ sym (ap (λ (z : NamedWalk). set_before v z.sets) c.other.view_is)),
)

pub returns-then-same_sets : goal.returns-then-same_sets
returns-then-same_sets c =
    let a = c.self.inside in
    let b = c.other.inside in
    let n = a.wires in
    let ws = a.touched.now.keys in
    let ls = map label_of a.labels.items in
    let rs = map label_of b.labels.items in
    let wires : b.wires ≡ n = ap (λ (z : NamedWalk). z.wires) c.other.view_is ∙ sym c.requires.wires ∙ sym (ap (λ (z : NamedWalk). z.wires) c.self.view_is) in
    let touched : b.touched.now.keys ≡ ws = ap (λ (z : NamedWalk). z.touched) c.other.view_is ∙ sym c.requires.touched ∙ sym (ap (λ (z : NamedWalk). z.touched) c.self.view_is) in
    let long : length ls ≡ length ws = length-map a.labels.items label_of ∙ c.self.invariant.labelled in
    let wide : length rs ≡ length ws = length-map b.labels.items label_of ∙ c.other.invariant.labelled ∙ ap length touched in (
      λ t. record {
        sets = λ v. sym (ap (λ (z : NamedWalk). set_before v z.sets) c.self.view_is) ∙ c.same_sets.ensures.0 c.if-same_sets.true v ∙ ap (λ (z : NamedWalk). set_before v z.sets) c.other.view_is;
        labels = λ q lt. sym (ap (λ (z : NamedWalk). labels_in z q) c.self.view_is)
            ∙ same-on n ws ls rs long wide (λ p l. ap (λ xs. labels_of_list (map label_of xs) p) (sym c.deref.ensures.value)
            ∙ c.same_labels.ensures.0 t p (omega (arith, l, long, length-map a.labels.items label_of, ap length c.deref.ensures.value)) ∙ ap (λ xs. labels_of_list (map label_of xs) p) c.deref-then-same_sets.ensures.value) q
            ∙ sym (λ i. labels_on (wires i) (touched i) rs q) ∙ ap (λ (z : NamedWalk). labels_in z q) c.other.view_is;
      },
      λ h. c.same_labels.ensures.1 (λ p l. ap (λ xs. labels_of_list (map label_of xs) p) c.deref.ensures.value
          ∙ on-same n ws ls rs c.self.invariant.below c.self.invariant.distinct long wide (λ q lt. ap (λ (z : NamedWalk). labels_in z q) c.self.view_is ∙ h.labels q (subst (λ k. q < k) (ap (λ (z : NamedWalk). z.wires) c.self.view_is) lt)
          ∙ sym (ap (λ (z : NamedWalk). labels_in z q) c.other.view_is) ∙ (λ i. labels_on (wires i) (touched i) rs q)) p (omega (arith, l, long, length-map a.labels.items label_of, ap length c.deref.ensures.value))
          ∙ ap (λ xs. labels_of_list (map label_of xs) p) (sym c.deref-then-same_sets.ensures.value)),
    )
