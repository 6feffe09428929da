use Rattle.std.proofs.Common.{◌∙◌, get_or, sym, arith}
use Rattle.std.proofs.lemmas.Option.{slice_get-get_or}
use Rattle.circuit_list.specs.declared.Gate.TheVariants.{H}
use Rattle.sabre_route.proofs.TurnLaws.{met-few, met-long, met-there, turned-one, turned-two, IsTurn}
use Rattle.sabre_route.proofs.lookout.follow.Goals as goal

pub returns-then-high-low-clause-way : goal.returns-then-high-low-clause-way
returns-then-high-low-clause-way c = λ heads e first next lt at h.
    let gs = c.args.cnots.now in
    let there = slice_get-get_or gs c.args.place (H 0) c.requires.within in
    let t : IsTurn gs c.args.later.now c.args.place c.args.reach.now c.pass.new.reach c.args.limit c.args.places.now =
    record { gate = get_or gs c.args.place (H 0); there = there; links = c.requires.links; passed = c.pass.ensures.passed _ there; room = c.requires.room } in
    turned-one gs heads c.args.later.now e first next c.args.count c.args.limit c.args.place c.min-low.result c.meet-one_more.result c.args.places.now c.args.reach.now c.pass.new.reach c.meet-one_more.new.places t lt at
    c.min-low.ensures (sym c.if-high-low.true ∙ c.max-high.ensures) c.meet-one_more.ensures.met h

pub returns-clause-there : goal.returns-clause-there
returns-clause-there c =
    let gs = c.args.cnots.now in
    let m = c.meet-one_more.ensures.met in
    let few = met-few gs c.pass.new.reach c.min-low.result c.args.limit c.args.count c.args.places.now c.meet-one_more.result c.meet-one_more.new.places m c.requires.few in
    met-there gs c.pass.new.reach c.max-high.result c.args.limit c.meet-one_more.result c.meet-one_more.new.places c.meet.result c.meet.new.places c.meet.ensures.met
    (omega (arith, c.requires.room, met-long gs c.pass.new.reach c.min-low.result c.args.limit c.args.count c.args.places.now c.meet-one_more.result c.meet-one_more.new.places m))
    (met-there gs c.pass.new.reach c.min-low.result c.args.limit c.args.count c.args.places.now c.meet-one_more.result c.meet-one_more.new.places m c.requires.room c.requires.there)

pub returns-clause-way : goal.returns-clause-way
returns-clause-way c = λ heads e first next lt at h.
    let gs = c.args.cnots.now in
    let there = slice_get-get_or gs c.args.place (H 0) c.requires.within in
    let t : IsTurn gs c.args.later.now c.args.place c.args.reach.now c.pass.new.reach c.args.limit c.args.places.now =
    record { gate = get_or gs c.args.place (H 0); there = there; links = c.requires.links; passed = c.pass.ensures.passed _ there; room = c.requires.room } in
    turned-two gs heads c.args.later.now e first next c.args.count c.args.limit c.args.place c.min-low.result c.max-high.result c.meet-one_more.result c.meet.result c.args.places.now c.args.reach.now c.pass.new.reach
    c.meet-one_more.new.places c.meet.new.places t lt at c.min-low.ensures c.max-high.ensures c.if-high-low.false c.meet-one_more.ensures.met c.meet.ensures.met c.requires.few h
