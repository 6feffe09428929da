use Rattle.routed_parts.proofs.RunLaws.{FollowsEdges-kept}
use Rattle.routed_parts.proofs.laws.kept_pairs_follow_edges.Goals as goal

pub returns : goal.returns
returns c = record { edges = FollowsEdges-kept }
