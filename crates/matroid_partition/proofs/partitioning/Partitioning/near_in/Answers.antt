use Rattle.std.proofs.Common.{◌≡◌, ◌<◌, ◌≤◌, ℕ, List, length, get_or, subst, sym, ap, ◌∙◌, arith}
use Rattle.std.proofs.lemmas.List.{get_or_push}
use Rattle.gf2_linear.specs.Rows.{combined}
use Rattle.matroid_partition.specs.declared.blocks.Block.{Block}
use Rattle.matroid_partition.specs.declared.search.Node.{Node}
use Rattle.matroid_partition.specs.Places.{Has}
use Rattle.matroid_partition.specs.Blocks.{places_at}
use Rattle.matroid_partition.specs.Searches.{IsMember, IsSet}
use Rattle.matroid_partition.proofs.PlaceLaws.{at-Has}
use Rattle.matroid_partition.specs.Arrangements.{rows_with}
use Rattle.matroid_partition.proofs.ArrangementLaws.{state-with}
use Rattle.matroid_partition.proofs.StateLaws.{places_at-is}
use Rattle.matroid_partition.proofs.SearchLaws.{block-few, set-member, set-told}
use Rattle.matroid_partition.proofs.partitioning.Partitioning.near_in.Goals as goal

pub members-init : goal.members-init
members-init c = tt

pub overflow_cast-member : goal.overflow_cast-member
overflow_cast-member c =
    let blocks : List Block = c.args.self.now.blocks in
    let e : c.deref-place-items.result.now ≡ places_at blocks c.args.number =
    c.deref-place-items.ensures.value ∙ ap (λ (b : Block). b.places.items) (c.block-block.ensures.value c.block-block.result.now) ∙ sym (places_at-is blocks c.args.number c.block-block.result.now c.requires.block) in
    let l : c.members.member < length c.deref-place-items.result.now = c.members-test.true in
    let f : length (places_at blocks c.args.number) ≤ 256 =
    block-few (rows_with c.args.self.now c.args.new.now) c.args.self.now.homes blocks c.args.number 256 c.block-block.result.now (state-with c.args.self.now c.args.new.now c.facts.ensures.arranged) c.requires.block (subst (λ (b : Block). length b.basis ≤ 256) (c.block-block.ensures.value c.block-block.result.now) c.facts-2.ensures.rank_limit) in
    let n : length c.deref-place-items.result.now ≡ length (places_at blocks c.args.number) = ap length e in
    omega arith

pub has-requires : goal.has-requires
has-requires c = record {
  within =
      let blocks : List Block = c.args.self.now.blocks in
      let e : c.deref-place-items.result.now ≡ places_at blocks c.args.number =
      c.deref-place-items.ensures.value ∙ ap (λ (b : Block). b.places.items) (c.block-block.ensures.value c.block-block.result.now) ∙ sym (places_at-is blocks c.args.number c.block-block.result.now c.requires.block) in
      let l : c.members.member < length c.deref-place-items.result.now = c.members-test.true in
      let f : length (places_at blocks c.args.number) ≤ 256 =
      block-few (rows_with c.args.self.now c.args.new.now) c.args.self.now.homes blocks c.args.number 256 c.block-block.result.now (state-with c.args.self.now c.args.new.now c.facts.ensures.arranged) c.requires.block (subst (λ (b : Block). length b.basis ≤ 256) (c.block-block.ensures.value c.block-block.result.now) c.facts-2.ensures.rank_limit) in
      let n : length c.deref-place-items.result.now ≡ length (places_at blocks c.args.number) = ap length e in
      omega arith;
}

pub room_for-requires : goal.room_for-requires
room_for-requires c = record {
  old =
      let ps : List ℕ = c.deref-place-items.result.now in
      let e : ps ≡ places_at c.args.self.now.blocks c.args.number =
      c.deref-place-items.ensures.value ∙ ap (λ (b : Block). b.places.items) (c.block-block.ensures.value c.block-block.result.now) ∙ sym (places_at-is c.args.self.now.blocks c.args.number c.block-block.result.now c.requires.block) in
      ((state-with c.args.self.now c.args.new.now c.facts.ensures.arranged).only c.args.number (get_or ps c.members.member 0)
      (subst (λ (q : List ℕ). Has q (get_or ps c.members.member 0)) e (at-Has ps c.members.member 0 c.members-test.true))).0;
}

pub returns-in-Some-room_for : goal.returns-in-Some-room_for
returns-in-Some-room_for c =
    let rows : List ℕ = rows_with c.args.self.now c.args.new.now in
    let blocks : List Block = c.args.self.now.blocks in
    let homes : List ℕ = c.args.self.now.homes in
    let ps : List ℕ = c.deref-place-items.result.now in
    let root : Node = record { place = length homes; parent = 0 } in
    let e : ps ≡ places_at blocks c.args.number = c.deref-place-items.ensures.value ∙ ap (λ (b : Block). b.places.items) (c.block-block.ensures.value c.block-block.result.now) ∙ sym (places_at-is blocks c.args.number c.block-block.result.now c.requires.block) in
    let l : c.members.member < length (places_at blocks c.args.number) = subst (λ (q : List ℕ). c.members.member < length q) e c.members-test.true in
    let set : IsSet rows homes blocks root c.args.number c.in-Some.set =
    set-told rows homes blocks root c.args.number c.in-Some.set c.block-block.result.now c.args.new.now (state-with c.args.self.now c.args.new.now c.facts.ensures.arranged) c.requires.block
    (subst (λ (b : Block). combined b.basis c.in-Some.set ≡ c.args.new.now) (c.block-block.ensures.value c.block-block.result.now) c.in-Some.ensures.some.0)
    (sym (get_or_push c.args.self.now.rows c.args.new.now 0 (length homes) (sym c.facts.ensures.arranged.count))) (λ o. let s : length homes < length homes = o.0 in absurd (omega arith)) in
    let h : get_or homes (get_or ps c.members.member 0) 0 ≡ c.args.number =
    ((state-with c.args.self.now c.args.new.now c.facts.ensures.arranged).only c.args.number (get_or ps c.members.member 0)
    (subst (λ (q : List ℕ). Has q (get_or ps c.members.member 0)) e (at-Has ps c.members.member 0 c.members-test.true))).1 in
    record {
      member = subst (λ k. IsMember rows homes blocks root k (get_or ps c.members.member 0)) (sym h)
          (subst (λ (q : List ℕ). IsMember rows homes blocks root c.args.number (get_or q c.members.member 0)) (sym e)
          (set-member rows homes blocks root c.args.number c.in-Some.set c.members.member (state-with c.args.self.now c.args.new.now c.facts.ensures.arranged) set l (c.has.ensures.value.0 c.if-has.true)));
      room = c.in-Some-room_for.ensures;
    }

pub members-preserved : goal.members-preserved
members-preserved c = tt
