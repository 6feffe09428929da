use Rattle.std.proofs.Common.{◌∙◌, ◌≡◌, All, List, subst, sym}
use Rattle.std.proofs.lemmas.List.Elements.{All-filter}
use Rattle.circuit_list.specs.declared.Gate.{Gate}
use Rattle.circuit_list.specs.Gates.{IsFine, is_cx}
use Rattle.sabre_route.specs.Front.{rest, AreHeads}
use Rattle.sabre_route.specs.Kept.{AreLinks}
use Rattle.sabre_route.proofs.LookoutLaws.{chained-made}
use Rattle.sabre_route.proofs.lookout.chained.Goals as goal

pub links_of-requires : goal.links_of-requires
links_of-requires c = record {
  fine = subst (λ xs. All (IsFine c.args.wires) xs) (sym (c.as_slice.ensures.value ∙ c.in_ok-cnots.ensures.ok)) (All-filter is_cx (IsFine c.args.wires) c.args.gates.now c.requires.fine);
}

pub invariant_of-result : goal.invariant_of-result
invariant_of-result c =
    let same = c.in_ok-cnots.ensures.ok in
    let value = c.as_slice.ensures.value in
    let heads = c.in_ok-heads.field-0.heads.items in
    chained-made c.args.wires c.args.gates.now c.in_ok-cnots.cnots.items heads c.in_ok-heads.field-0.later.items same
    (subst (λ (xs : List Gate). All (IsFine c.args.wires) xs) (sym same) (All-filter is_cx (IsFine c.args.wires) c.args.gates.now c.requires.fine))
    (subst (λ (xs : List Gate). AreHeads c.args.wires xs heads) value c.in_ok-heads.ensures.heads)
    (subst (λ (xs : List Gate). rest heads xs ≡ xs) value c.in_ok-heads.ensures.all)
    (subst (λ (xs : List Gate). AreLinks xs c.in_ok-heads.field-0.later.items) value c.in_ok-heads.ensures.later)
