use Rattle.std.proofs.Common.{◌≡◌, ◌++◌, ◌∷◌, [], ℕ, List, subst, sym, ap, ◌∙◌}
use Rattle.std.specs.Option.{option_to_list}
use Rattle.matroid_partition.specs.Places.{Has}
use Rattle.matroid_partition.proofs.OpenLaws.{Has-append_new}
use Rattle.matroid_partition.proofs.dealing.open_last.Goals as goal

pub open_with-requires-clause-there : goal.open_with-requires-clause-there
open_with-requires-clause-there c =
    let over : c.args.dealing.now.over.items ≡ c.pop.new.self.items ++ c.unwrap-place.result ∷ [] = c.pop.ensures.items ∙ ap (λ o. c.pop.new.self.items ++ option_to_list o) c.unwrap-place.ensures in
    c.requires.rows.below c.unwrap-place.result (subst (λ (q : List ℕ). Has q c.unwrap-place.result) (sym over) (Has-append_new c.pop.new.self.items c.unwrap-place.result))

pub open_with-requires-clause-sum : goal.open_with-requires-clause-sum
open_with-requires-clause-sum c =
    let over : c.args.dealing.now.over.items ≡ c.pop.new.self.items ++ c.unwrap-place.result ∷ [] = c.pop.ensures.items ∙ ap (λ o. c.pop.new.self.items ++ option_to_list o) c.unwrap-place.ensures in
    c.requires.rows.sums c.unwrap-place.result (subst (λ (q : List ℕ). Has q c.unwrap-place.result) (sym over) (Has-append_new c.pop.new.self.items c.unwrap-place.result))

pub open_with-requires-clause-nonzero : goal.open_with-requires-clause-nonzero
open_with-requires-clause-nonzero c =
    let over : c.args.dealing.now.over.items ≡ c.pop.new.self.items ++ c.unwrap-place.result ∷ [] = c.pop.ensures.items ∙ ap (λ o. c.pop.new.self.items ++ option_to_list o) c.unwrap-place.ensures in
    c.requires.nonzero c.unwrap-place.result 0
    (c.requires.rows.below c.unwrap-place.result (subst (λ (q : List ℕ). Has q c.unwrap-place.result) (sym over) (Has-append_new c.pop.new.self.items c.unwrap-place.result)))

pub returns : goal.returns
returns c =
    let over : c.args.dealing.now.over.items ≡ c.pop.new.self.items ++ c.unwrap-place.result ∷ [] = c.pop.ensures.items ∙ ap (λ o. c.pop.new.self.items ++ option_to_list o) c.unwrap-place.ensures in
    let begun = c.in_ok-open_with.ensures in
    record {
      place = c.unwrap-place.result;
      held = begun.held;
      names = begun.names;
      over = over ∙ ap (λ (q : List ℕ). q ++ c.unwrap-place.result ∷ []) (sym begun.over);
      all = begun.all;
      blocks = begun.blocks;
    }
