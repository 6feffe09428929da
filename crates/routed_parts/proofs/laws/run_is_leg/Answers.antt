use Rattle.routed_parts.proofs.RunLaws.{IsLeg-run}
use Rattle.routed_parts.proofs.laws.run_is_leg.Goals as goal

pub returns : goal.returns
returns c = record { leg = IsLeg-run }
