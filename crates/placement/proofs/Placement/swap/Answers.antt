use Rattle.std.proofs.Common.{◌<◌, ℕ, List, length, set, subst, arith}
use Rattle.std.proofs.lemmas.List.{get_or_read}
use Rattle.unitary_model.specs.Placement.{IsPlacement}
use Rattle.placement.proofs.PlacementLaws.{AreInverse-swap, IsPlacement-written}
use Rattle.placement.proofs.Placement.swap.Goals as goal

pub invariant_of-self : goal.invariant_of-self
invariant_of-self c =
    let h = c.self.invariant in
    let first : c.args.a < length c.self.inside.qubits.items = rw c.self.view_is c.requires.first in
    let second : c.args.b < length c.self.inside.qubits.items = rw c.self.view_is c.requires.second in
    AreInverse-swap c.self.inside.qubits.items c.self.inside.wires.items c.args.a c.args.b c.index-on_a.result.now c.index-on_b.result.now h first second
    (get_or_read _ c.args.a _ (omega (arith, h.long)) c.index-on_a.ensures 0)
    (get_or_read _ c.args.b _ (omega (arith, h.long)) c.index-on_b.ensures 0)

pub returns-clause-placement : goal.returns-clause-placement
returns-clause-placement c =
    subst (λ (p : List ℕ). IsPlacement (length p) (set (set c.self.inside.qubits.items c.index-on_a.result.now c.args.b) c.index-on_b.result.now c.args.a))
    c.self.view_is (IsPlacement-written c.self.inside.qubits.items _ _ _ _ _ (invariant_of-self c))
