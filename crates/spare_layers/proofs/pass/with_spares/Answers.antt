use Rattle.std.proofs.Common.{◌≡◌, ◌+◌, List, All, subst, sym, arith}
use Rattle.std.proofs.lemmas.Grind.{common_steps}
use Rattle.circuit_list.specs.declared.Gate.{Gate}
use Rattle.circuit_list.specs.Gates.{IsFine}
use Rattle.circuit_layers.specs.Layers.{layers_of}
use Rattle.phase_poly.proofs.FineLaws.{dihedral_told}
use Rattle.spare_layers.specs.SparedLayers.{IsSparedList}
use Rattle.spare_layers.proofs.SparedPassLaws.{circuit_all, list-told}
use Rattle.spare_layers.proofs.pass.with_spares.Goals as goal

pub relinked-requires-clause-dihedral : goal.relinked-requires-clause-dihedral
relinked-requires-clause-dihedral c =
    let layers : c.deref.result.now ≡ layers_of c.args.body.now.gates = grind (arith, common_steps) in
    dihedral_told c.args.body.now.wires c.wires-wires.result c.args.body.now.gates c.deref.result.now c.wires-wires.ensures.wires layers c.facts.ensures.fine

pub circuit_of-requires-clause-fine : goal.circuit_of-requires-clause-fine
circuit_of-requires-clause-fine c =
    let layers : c.deref.result.now ≡ layers_of c.args.body.now.gates = grind (arith, common_steps) in
    let list : c.deref-2.result.now ≡ c.in_ok-other.other.list.items = grind (arith, common_steps) in
    subst (λ (gs : List Gate). All (IsFine (c.wires-wires.result + c.args.spares)) gs) (sym list)
    (circuit_all c.args.body.now.wires c.wires-wires.result c.args.spares c.in_ok-other.other.turn c.args.body.now.gates c.in_ok-other.other.list.items c.deref.result.now
    c.wires-wires.ensures.wires layers c.facts.ensures.fine c.in_ok-other.ensures.layers)

pub returns-clause-layers : goal.returns-clause-layers
returns-clause-layers c =
    let layers : c.deref.result.now ≡ layers_of c.args.body.now.gates = grind (arith, common_steps) in
    let list : c.in_ok-made.made.gates ≡ c.in_ok-other.other.list.items = grind (arith, common_steps) in
    subst (λ (gs : List Gate). IsSparedList c.args.body.now.wires c.args.spares (layers_of c.args.body.now.gates) gs c.in_ok-other.other.turn) (sym list)
    (list-told c.args.body.now.wires c.wires-wires.result c.args.spares c.in_ok-other.other.turn c.args.body.now.gates c.in_ok-other.other.list.items c.deref.result.now
    c.wires-wires.ensures.wires layers c.in_ok-other.ensures.layers)
