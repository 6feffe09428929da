use Rattle.routed_parts.proofs.TryLaws.{OneRun, runs-one, tries-one}
use Rattle.routed_parts.proofs.laws.tries_are_one.Goals as goal

pub returns : goal.returns
returns c =
    let one : OneRun = record { events = c.one_run.ensures.events; end = c.one_run.ensures.end } in
    record {
      runs = runs-one one;
      tries = tries-one one c.start_is_one.ensures.one;
    }
