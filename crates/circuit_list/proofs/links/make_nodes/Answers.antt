use Rattle.std.proofs.Common.{◌∙◌, ◌<◌, ◌≤◌, ◌^◌, List, sym, ap, subst, arith, length}
use Rattle.std.proofs.Math.Nat.{one-le-pow}
use Rattle.circuit_list.specs.declared.nodes.Node.{Node}
use Rattle.circuit_list.proofs.TreeLaws.{written-back}
use Rattle.circuit_list.proofs.links.make_nodes.Goals as goal

pub returns-clause-room : goal.returns-clause-room
returns-clause-room c =
    let value = ap (λ (xs : List Node). length xs) c.deref_mut.ensures.value in
    let told = c.tell.ensures.len in
    let e = written-back c.double.new.nodes.len c.tell.new.nodes c.double.new.nodes.items (told ∙ value) (sym c.deref_mut.ensures.len ∙ value) in
    let one : 1 ≤ 2 ^ c.args.height.now = one-le-pow c.args.height.now 2 (omega arith) in
    let twice = c.in_ok-double.ensures.len in
    subst (λ (xs : List Node). length c.args.gates.now < length xs) (sym e) (omega (arith, c.requires.room, c.requires.size))
