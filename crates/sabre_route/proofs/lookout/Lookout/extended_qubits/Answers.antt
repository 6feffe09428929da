use Rattle.std.proofs.Common.{◌∙◌, refl, arith}
use Rattle.sabre_route.proofs.ShownLaws.{layer-met, layer-there, shown-places, shown-room, shown-set, IsCalled}
use Rattle.sabre_route.proofs.lookout.Lookout.extended_qubits.Goals as goal

pub begin-requires-clause-there : goal.begin-requires-clause-there
begin-requires-clause-there c =
    let s = c.self.inside in
    let h : IsCalled s.cnots.now s.heads.items s.later.now c.args.self.now c.args.placement.now = record { lookout = c.self.invariant; view = c.self.view_is; placement = c.facts.ensures.placement; fits = c.requires.fits } in
    layer-there s.cnots.now s.heads.items c.as_slice-2.result.now s.later.now c.args.self.now c.args.placement.now c.args.layer.now h c.requires.layer c.as_slice-2.ensures.value

pub follow_all-count-requires-clause-there : goal.follow_all-count-requires-clause-there
follow_all-count-requires-clause-there c =
    let s = c.self.inside in
    let h : IsCalled s.cnots.now s.heads.items s.later.now c.args.self.now c.args.placement.now = record { lookout = c.self.invariant; view = c.self.view_is; placement = c.facts.ensures.placement; fits = c.requires.fits } in
    layer-met s.cnots.now s.heads.items c.as_slice-2.result.now s.later.now c.args.self.now c.args.placement.now c.args.layer.now c.begin.new.places h c.requires.layer c.as_slice-2.ensures.value c.begin.ensures.begun

pub write_pairs-requires-clause-places : goal.write_pairs-requires-clause-places
write_pairs-requires-clause-places c = shown-places c.self.inside.cnots.now _ _ _ c.follow_all-count.ensures.there

pub write_pairs-requires-clause-room : goal.write_pairs-requires-clause-room
write_pairs-requires-clause-room c = omega (arith, shown-room c.self.inside.cnots.now c.follow_all-count.new.places _ _ _ c.follow_all-count.ensures.few refl, c.requires.room)

pub returns-clause-set : goal.returns-clause-set
returns-clause-set c =
    let s = c.self.inside in
    let h : IsCalled s.cnots.now s.heads.items s.later.now c.args.self.now c.args.placement.now = record { lookout = c.self.invariant; view = c.self.view_is; placement = c.facts.ensures.placement; fits = c.requires.fits } in
    shown-set s.cnots.now s.heads.items c.as_slice-2.result.now s.later.now c.args.self.now c.args.placement.now c.args.layer.now c.begin.new.places c.copy_from_slice.new.self c.follow_all-count.new.places c.follow_all-count.result _ _ h
    c.as_slice-2.ensures.value (c.copy_from_slice.ensures.after ∙ c.as_slice.ensures.value) c.begin.ensures.begun refl c.follow_all-count.ensures.few c.follow_all-count.ensures.met c.write_pairs.ensures.qubits
