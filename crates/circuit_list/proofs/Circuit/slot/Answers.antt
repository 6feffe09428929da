use Rattle.std.proofs.Common.{◌∙◌, sym, ap, arith, length, slice_get, Some}
use Rattle.circuit_list.specs.Body.{Body}
use Rattle.circuit_list.specs.Entries.{entry, slots_from}
use Rattle.circuit_list.specs.Slots.{place_of}
use Rattle.circuit_list.proofs.CircuitLaws.{live_gate, place-entry, slot-entry}
use Rattle.circuit_list.proofs.EntryLaws.{rank-length}
use Rattle.circuit_list.proofs.Circuit.slot.Goals as goal

pub select-requires : goal.select-requires
select-requires c = record {
  within =
      let all = rank-length c.self.inside.tree in
      let same = ap (λ (b : Body). length b.gates) c.self.view_is in
      omega (arith, c.requires.within);
}

pub returns-clause-there : goal.returns-clause-there
returns-clause-there c =
    let l = live_gate (entry c.self.inside.tree c.select.result) c.select.ensures.live in
    ap (λ (b : Body). slice_get b.slots c.args.i) (sym c.self.view_is) ∙ ap (slice_get (slots_from 0 c.self.inside.tree)) (sym c.select.ensures.rank)
    ∙ slot-entry c.self.inside.tree c.select.result l.0 l.1 ∙ ap Some (sym c.new.ensures.value)

pub returns-clause-place : goal.returns-clause-place
returns-clause-place c =
    let l = live_gate (entry c.self.inside.tree c.select.result) c.select.ensures.live in
    ap (λ (b : Body). place_of c.new.result b.slots) (sym c.self.view_is) ∙ ap (λ n. place_of n (slots_from 0 c.self.inside.tree)) c.new.ensures.value
    ∙ place-entry c.self.inside.tree c.select.result l.0 l.1 ∙ c.select.ensures.rank
