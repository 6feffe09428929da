use Rattle.std.proofs.Common.{◌≡◌, ◌≤◌, List, All, subst, sym, arith}
use Rattle.std.proofs.lemmas.Grind.{common_steps}
use Rattle.unitary_model.specs.Operations.{cx_count}
use Rattle.circuit_list.specs.declared.Gate.{Gate}
use Rattle.circuit_list.specs.Gates.{ops, IsFine}
use Rattle.rewrite_pass.specs.Law.{IsRewriting}
use Rattle.rewrite_pass.specs.Traces.{IsSumsStep}
use Rattle.circuit_layers.specs.Layers.{layers_of}
use Rattle.phase_poly.specs.Replaced.{IsRelinked, KeepsBound}
use Rattle.phase_poly.proofs.FineLaws.{dihedral_told, told, relinked_fine, rewriting_new, bound_new, bound_old}
use Rattle.phase_poly.proofs.SumLaws.{sums_new}
use Rattle.phase_poly.proofs.pass.remade.Goals as goal

pub relinked-requires-clause-dihedral : goal.relinked-requires-clause-dihedral
relinked-requires-clause-dihedral c =
    let layers : c.deref.result.now ≡ layers_of c.args.body.now.gates = grind (arith, common_steps) in
    dihedral_told c.args.body.now.wires c.wires.result c.args.body.now.gates c.deref.result.now c.wires.ensures.wires layers c.facts.ensures.fine

pub circuit_of-requires-clause-fine : goal.circuit_of-requires-clause-fine
circuit_of-requires-clause-fine c =
    let layers : c.deref.result.now ≡ layers_of c.args.body.now.gates = grind (arith, common_steps) in
    let list : c.deref-then-cx_number-count_cx.result.now ≡ c.in_ok-other.other.list.items = grind (arith, common_steps) in
    let wires : c.wires-then-cx_number-count_cx.result ≡ c.args.body.now.wires = grind (arith, common_steps) in
    let t : IsRelinked c.args.body.now.wires (layers_of c.args.body.now.gates) c.in_ok-other.other.list.items c.in_ok-other.other.turn =
    told c.args.body.now.wires c.wires.result c.in_ok-other.other.turn c.args.body.now.gates c.in_ok-other.other.list.items c.deref.result.now c.wires.ensures.wires layers c.in_ok-other.ensures.relinked in
    subst (λ m. All (IsFine m) c.deref-then-cx_number-count_cx.result.now) (sym wires)
    (subst (λ (gs : List Gate). All (IsFine c.args.body.now.wires) gs) (sym list)
    (relinked_fine c.args.body.now.wires c.in_ok-other.other.turn c.args.body.now.gates c.in_ok-other.other.list.items c.facts.ensures.fine t))

pub returns-then-cx_number-count_cx-clause-law : goal.returns-then-cx_number-count_cx-clause-law
returns-then-cx_number-count_cx-clause-law c =
    let layers : c.deref.result.now ≡ layers_of c.args.body.now.gates = grind (arith, common_steps) in
    let list : c.in_ok-made.made.gates ≡ c.in_ok-other.other.list.items = grind (arith, common_steps) in
    let t : IsRelinked c.args.body.now.wires (layers_of c.args.body.now.gates) c.in_ok-other.other.list.items c.in_ok-other.other.turn =
    told c.args.body.now.wires c.wires.result c.in_ok-other.other.turn c.args.body.now.gates c.in_ok-other.other.list.items c.deref.result.now c.wires.ensures.wires layers c.in_ok-other.ensures.relinked in
    subst (λ (gs : List Gate). IsRewriting c.args.body.now.wires c.args.body.now.gates gs c.in_ok-other.other.turn) (sym list)
    (rewriting_new c.args.body.now.wires c.in_ok-other.other.turn c.args.body.now.gates c.in_ok-other.other.list.items c.facts.ensures.fine t c.in_ok-other.ensures.below)

pub returns-then-cx_number-count_cx-clause-kept : goal.returns-then-cx_number-count_cx-clause-kept
returns-then-cx_number-count_cx-clause-kept c =
    let layers : c.deref.result.now ≡ layers_of c.args.body.now.gates = grind (arith, common_steps) in
    let list : c.in_ok-made.made.gates ≡ c.in_ok-other.other.list.items = grind (arith, common_steps) in
    let t : IsRelinked c.args.body.now.wires (layers_of c.args.body.now.gates) c.in_ok-other.other.list.items c.in_ok-other.other.turn =
    told c.args.body.now.wires c.wires.result c.in_ok-other.other.turn c.args.body.now.gates c.in_ok-other.other.list.items c.deref.result.now c.wires.ensures.wires layers c.in_ok-other.ensures.relinked in
    subst (λ (gs : List Gate). KeepsBound c.args.body.now.wires c.args.body.now.gates gs) (sym list)
    (bound_new c.args.body.now.wires c.in_ok-other.other.turn c.args.body.now.gates c.in_ok-other.other.list.items t)

pub returns-then-cx_number-count_cx-clause-sums : goal.returns-then-cx_number-count_cx-clause-sums
returns-then-cx_number-count_cx-clause-sums c =
    let layers : c.deref.result.now ≡ layers_of c.args.body.now.gates = grind (arith, common_steps) in
    let list : c.in_ok-made.made.gates ≡ c.in_ok-other.other.list.items = grind (arith, common_steps) in
    let t : IsRelinked c.args.body.now.wires (layers_of c.args.body.now.gates) c.in_ok-other.other.list.items c.in_ok-other.other.turn =
    told c.args.body.now.wires c.wires.result c.in_ok-other.other.turn c.args.body.now.gates c.in_ok-other.other.list.items c.deref.result.now c.wires.ensures.wires layers c.in_ok-other.ensures.relinked in
    subst (λ (gs : List Gate). IsSumsStep c.args.body.now.wires gs c.args.body.now.gates gs c.in_ok-other.other.turn) (sym list)
    (sums_new c.args.body.now.wires c.in_ok-other.other.turn c.args.body.now.gates c.in_ok-other.other.list.items c.facts.ensures.fine t c.in_ok-other.ensures.below)

pub returns-clause-kept : goal.returns-clause-kept
returns-clause-kept c =
    let layers : c.deref.result.now ≡ layers_of c.args.body.now.gates = grind (arith, common_steps) in
    let fewer : cx_count (ops c.args.body.now.gates) ≤ cx_count (ops c.in_ok-other.other.list.items) = grind (arith, common_steps) in
    let t : IsRelinked c.args.body.now.wires (layers_of c.args.body.now.gates) c.in_ok-other.other.list.items c.in_ok-other.other.turn =
    told c.args.body.now.wires c.wires.result c.in_ok-other.other.turn c.args.body.now.gates c.in_ok-other.other.list.items c.deref.result.now c.wires.ensures.wires layers c.in_ok-other.ensures.relinked in
    bound_old c.args.body.now.wires c.in_ok-other.other.turn c.args.body.now.gates c.in_ok-other.other.list.items t fewer
