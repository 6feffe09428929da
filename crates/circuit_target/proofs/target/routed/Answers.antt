-- The target is what is asked for.
use Rattle.circuit_target.proofs.MadeLaws.{Stands-asked, silent-or}
use Rattle.circuit_target.proofs.target.routed.Goals as goal

pub on_device-requires-clause-silent : goal.on_device-requires-clause-silent
on_device-requires-clause-silent g c =
    silent-or c.args.wishes.trace c.in_ok-rewritten.rewritten.items c.deref.result.now _ c.deref.ensures.value c.requires.traced c.in_ok-rewritten.ensures.asked

pub returns-clause-stands : goal.returns-clause-stands
returns-clause-stands g c =
    let r = c.in_ok-rewritten.ensures in
    Stands-asked c.args.device.now c.args.source.now c.on_device.result c.in_ok-rewritten.rewritten.items c.deref.result.now c.args.wishes.keep
    c.args.wishes.clean c.args.wishes.trace c.args.starts c.deref.ensures.value c.facts.ensures.cut r.optimised r.asked c.on_device.ensures.stands

pub returns-clause-fit : goal.returns-clause-fit
returns-clause-fit g c = c.on_device.ensures.fit
