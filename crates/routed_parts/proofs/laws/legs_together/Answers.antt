use Rattle.routed_parts.proofs.LegLaws.{AreRealised-legs, AreOfRuns-legs, FollowsEdges-legs, HasFewSwaps-legs, cx-legs, t_gates-legs}
use Rattle.routed_parts.proofs.laws.legs_together.Goals as goal

pub returns : goal.returns
returns c = record {
  realised = AreRealised-legs;
  left = AreOfRuns-legs;
  edges = FollowsEdges-legs;
  t_gates = t_gates-legs;
  cx_gates = cx-legs;
  swaps = HasFewSwaps-legs;
}
