use Rattle.std.proofs.Common.{◌≡◌, ◌∙◌, sym, ap, subst, slice_get, Some}
use Rattle.circuit_list.specs.Body.{Body}
use Rattle.circuit_list.specs.Entries.{entry, is_live}
use Rattle.circuit_list.specs.Gates.{IsFine}
use Rattle.circuit_list.specs.Slots.{IsLive, place_of}
use Rattle.circuit_list.proofs.CircuitLaws.{fine-entry, gate-entry, live_entry}
use Rattle.circuit_list.proofs.Circuit.gate_at.Goals as goal

pub gate-requires : goal.gate-requires
gate-requires c = record {
  live =
      let l = live_entry c.self.inside.tree c.args.s (subst (λ (b : Body). IsLive b c.args.s) (sym c.self.view_is) c.requires.live) in
      let here : entry c.self.inside.tree c.index.result ≡ Some l.0 = ap (entry c.self.inside.tree) c.index.ensures.value ∙ l.1 in
      ap is_live here;
}

pub returns-clause-there : goal.returns-clause-there
returns-clause-there c =
    let here : entry c.self.inside.tree c.args.s ≡ Some c.gate.result = ap (entry c.self.inside.tree) (sym c.index.ensures.value) ∙ c.gate.ensures.value in
    subst (λ (b : Body). slice_get b.gates (place_of c.args.s b.slots) ≡ Some c.gate.result) c.self.view_is (gate-entry c.self.inside.tree c.args.s c.gate.result here)

pub returns-clause-fine : goal.returns-clause-fine
returns-clause-fine c =
    subst (λ (b : Body). IsFine b.wires c.gate.result) c.self.view_is
    (fine-entry c.self.inside.wires c.self.inside.tree c.index.result c.gate.result c.gate.ensures.value c.self.invariant.1)
