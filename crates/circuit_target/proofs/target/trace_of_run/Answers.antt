use Rattle.std.proofs.Common.{sym, subst, ap, is_some}
use Rattle.sabre_route.specs.Telling.{IsRoutedBy}
use Rattle.circuit_target.proofs.target.trace_of_run.Goals as goal

pub trace-requires-clause-routed : goal.trace-requires-clause-routed
trace-requires-clause-routed g c =
    let by = c.requires.events (ap is_some c.in-Some.is) in
    (by.0, subst (IsRoutedBy by.0 c.args.device.now c.args.rewritten.now.passed.body.gates c.args.given.now c.args.run.now.routed) (sym c.deref.ensures.value) by.1)
