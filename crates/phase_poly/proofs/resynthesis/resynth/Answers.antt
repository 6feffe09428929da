use Rattle.std.proofs.Common.{◌≡◌, ◌≤◌, length, sym, subst, ◌∙◌, arith}
use Rattle.std.proofs.lemmas.Grind.{common_steps}
use Rattle.phase_poly.specs.Polys.{AreDihedral}
use Rattle.phase_poly.proofs.NamedLaws.{AreNames}
use Rattle.phase_poly.proofs.NamingLaws.{known, names-below, places-names, resynth_named, resynth_few}
use Rattle.phase_poly.proofs.resynthesis.resynth.Goals as goal

pub numbered-requires-clause-names_limit : goal.numbered-requires-clause-names_limit
numbered-requires-clause-names_limit c =
    let names : AreNames c.args.wires c.deref.result.now = places-names c.args.wires c.wires_of.result c.deref.result.now (c.deref.ensures.value ∙ c.in_ok-names.ensures.ok) in
    let few : length c.deref.result.now ≤ c.args.wires = names.few in
    omega (arith, few, c.requires.wires_limit)

pub numbered-requires-clause-known : goal.numbered-requires-clause-known
numbered-requires-clause-known c =
    known c.args.wires c.wires_of.result c.deref.result.now c.args.list.now (c.deref.ensures.value ∙ c.in_ok-names.ensures.ok) c.requires.dihedral c.wires_of.ensures.marked

pub overflow_cast-len : goal.overflow_cast-len
overflow_cast-len c =
    let names : AreNames c.args.wires c.deref.result.now = places-names c.args.wires c.wires_of.result c.deref.result.now (c.deref.ensures.value ∙ c.in_ok-names.ensures.ok) in
    let few : length c.deref.result.now ≤ c.args.wires = names.few in
    let count : c.len.result ≡ length c.deref.result.now = grind (arith, common_steps) in
    omega (arith, few, count, c.requires.wires_limit)

pub rebuilt-requires-clause-wires_limit : goal.rebuilt-requires-clause-wires_limit
rebuilt-requires-clause-wires_limit c =
    let names : AreNames c.args.wires c.deref.result.now = places-names c.args.wires c.wires_of.result c.deref.result.now (c.deref.ensures.value ∙ c.in_ok-names.ensures.ok) in
    let few : length c.deref.result.now ≤ c.args.wires = names.few in
    let count : c.len.result ≡ length c.deref.result.now = grind (arith, common_steps) in
    omega (arith, few, count, c.requires.wires_limit)

pub rebuilt-requires-clause-dihedral : goal.rebuilt-requires-clause-dihedral
rebuilt-requires-clause-dihedral c =
    let count : c.len.result ≡ length c.deref.result.now = grind (arith, common_steps) in
    subst (λ k. AreDihedral k c.deref-2.result.now) (sym count)
    (subst (AreDihedral (length c.deref.result.now)) (sym c.deref-2.ensures.value) (c.in_ok-gates.ensures.dihedral c.args.wires c.requires.dihedral))

pub renamed-requires-clause-below : goal.renamed-requires-clause-below
renamed-requires-clause-below c =
    names-below c.args.wires c.deref-3.result.now (places-names c.args.wires c.wires_of.result c.deref-3.result.now (c.deref-3.ensures.value ∙ c.in_ok-names.ensures.ok)) c.requires.wires_limit

pub returns-clause-resynthesis : goal.returns-clause-resynthesis
returns-clause-resynthesis c =
    let count : c.len.result ≡ length c.deref.result.now = grind (arith, common_steps) in
    resynth_named c.args.wires c.in_ok-part.part.turn c.len.result c.deref.result.now c.deref-3.result.now c.args.list.now c.in_ok-gates.gates.items c.deref-2.result.now
    c.in_ok-part.part.list.items c.deref-4.result.now c.in_ok-list.list.items
    (places-names c.args.wires c.wires_of.result c.deref.result.now (c.deref.ensures.value ∙ c.in_ok-names.ensures.ok)) count
    (c.deref-3.ensures.value ∙ sym c.deref.ensures.value) c.deref-2.ensures.value c.in_ok-gates.ensures.gates (c.in_ok-gates.ensures.dihedral c.args.wires c.requires.dihedral)
    c.in_ok-part.ensures.resynthesis c.deref-4.ensures.value c.in_ok-list.ensures.ok

pub returns-clause-cx_bound : goal.returns-clause-cx_bound
returns-clause-cx_bound c =
    let count : c.len.result ≡ length c.deref.result.now = grind (arith, common_steps) in
    resynth_few c.args.wires c.len.result c.deref.result.now c.deref-3.result.now c.args.list.now c.in_ok-gates.gates.items c.deref-2.result.now
    c.in_ok-part.part.list.items c.deref-4.result.now c.in_ok-list.list.items
    (places-names c.args.wires c.wires_of.result c.deref.result.now (c.deref.ensures.value ∙ c.in_ok-names.ensures.ok)) count
    (c.deref-3.ensures.value ∙ sym c.deref.ensures.value) c.deref-2.ensures.value c.in_ok-gates.ensures.gates (c.in_ok-gates.ensures.dihedral c.args.wires c.requires.dihedral)
    c.in_ok-part.ensures.cx_bound c.deref-4.ensures.value c.in_ok-list.ensures.ok
