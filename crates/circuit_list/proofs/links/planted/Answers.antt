use Rattle.std.proofs.Common.{◌≡◌, ◌∙◌, ◌^◌, List, sym, ap, subst, arith, length}
use Rattle.circuit_list.specs.declared.nodes.Node.{Node}
use Rattle.circuit_list.specs.Tree.{IsTree}
use Rattle.circuit_list.proofs.TreeLaws.{low_power, written-back}
use Rattle.circuit_list.proofs.links.planted.Goals as goal

pub overflow_add-height : goal.overflow_add-height
overflow_add-height c =
    let low = low_power c.higher.height (omega (arith, c.higher.invariant, c.len.ensures)) in
    omega arith

pub returns : goal.returns
returns c = record {
  ok =
      let value = ap (λ (xs : List Node). length xs) c.deref_mut.ensures.value in
      let told = c.tell.ensures.len in
      let e = written-back c.higher.nodes.len c.tell.new.nodes c.higher.nodes.items (told ∙ value) (sym c.deref_mut.ensures.len ∙ value) in
      let size : length c.tell.new.nodes ≡ 2 ^ c.higher.height = told ∙ value ∙ c.higher.invariant in
      record {
        tree = subst (λ (xs : List Node). IsTree c.higher.height c.args.gates.now xs) (sym e) (record {
          low = low_power c.higher.height (omega (arith, c.deref_mut.ensures.len));
          size = size;
          room = omega (arith, c.len.ensures, c.deref_mut.ensures.len);
          joined = c.tell.ensures.joined;
        });
        marked = c.in_ok-marks.ensures;
      };
}
