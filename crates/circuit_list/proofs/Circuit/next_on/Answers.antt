use Rattle.circuit_list.specs.OnWire.{IsFirstGateOn, NoGateOn}
use Rattle.std.proofs.Common.{◌≡◌, ◌∙◌, ℕ, ◌+◌, sym, ap, subst, length, Option, Some}
use Rattle.circuit_list.specs.Body.{Body}
use Rattle.circuit_list.specs.Entries.{entry}
use Rattle.circuit_list.specs.Slots.{IsLive, IsNextOn, NoneBehind, place_of}
use Rattle.std.proofs.Common.{MatchOption}
use Rattle.circuit_list.proofs.CircuitLaws.{live_entry, next-some, next-none}
use Rattle.circuit_list.proofs.EntryLaws.{slot_below}
use Rattle.circuit_list.proofs.Circuit.next_on.Goals as goal

pub next_on-requires : goal.next_on-requires
next_on-requires c = record {
  within =
      let l = live_entry c.self.inside.tree c.args.s (subst (λ (b : Body). IsLive b c.args.s) (sym c.self.view_is) c.requires.live) in
      let here : entry c.self.inside.tree c.index.result ≡ Some l.0 = ap (entry c.self.inside.tree) c.index.ensures.value ∙ l.1 in
      slot_below c.self.inside.tree c.index.result l.0 here;
}

pub returns-in_err-slot : goal.returns-in_err-slot
returns-in_err-slot c = record {
  found =
      let l = live_entry c.self.inside.tree c.args.s (subst (λ (b : Body). IsLive b c.args.s) (sym c.self.view_is) c.requires.live) in
      subst (λ (o : Option ℕ). MatchOption o (NoneBehind c.args.wire c.args.self.now.gates (place_of c.args.s c.args.self.now.slots))
      (λ t. IsLive c.args.self.now t × IsNextOn c.args.wire c.args.self.now.gates (place_of c.args.s c.args.self.now.slots) (place_of t c.args.self.now.slots))) (sym c.from_residual.ensures)
      (subst (λ (b : Body). NoneBehind c.args.wire b.gates (place_of c.args.s b.slots)) c.self.view_is
      (next-none c.args.wire c.args.s c.self.inside.tree l.0 l.1
      (subst (λ n. NoGateOn c.args.wire c.self.inside.tree (n + 1) (length c.self.inside.tree)) c.index.ensures.value c.in_err-slot.ensures.found)));
}

pub returns : goal.returns
returns c = record {
  found =
      let l = live_entry c.self.inside.tree c.args.s (subst (λ (b : Body). IsLive b c.args.s) (sym c.self.view_is) c.requires.live) in
      subst (λ t. IsLive c.args.self.now t × IsNextOn c.args.wire c.args.self.now.gates (place_of c.args.s c.args.self.now.slots) (place_of t c.args.self.now.slots)) (sym c.new.ensures.value)
      (subst (λ (b : Body). IsLive b c.in_ok-slot.slot × IsNextOn c.args.wire b.gates (place_of c.args.s b.slots) (place_of c.in_ok-slot.slot b.slots)) c.self.view_is
      (next-some c.args.wire c.args.s c.in_ok-slot.slot c.self.inside.tree l.0 l.1
      (subst (λ n. IsFirstGateOn c.args.wire c.self.inside.tree (n + 1) c.in_ok-slot.slot) c.index.ensures.value c.in_ok-slot.ensures.found)));
}
