-- The gates before this one were added.
use Rattle.std.proofs.Common.{drop}
use Rattle.rotation_merge.proofs.RunLaws.{IsGathering}
use Rattle.rotation_merge.proofs.gathered.Given as goal

abbrev pub invariant-gates : goal.invariant-gates
invariant-gates l = IsGathering l.body.wires l.body.gates (drop l.i l.body.gates) l.walk l.totals
