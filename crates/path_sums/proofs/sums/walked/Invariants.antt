-- The gates before this one were passed.
use Rattle.std.proofs.Common.{◌≡◌, drop}
use Rattle.path_sums.specs.Names.{number_by}
use Rattle.path_sums.proofs.WalkedLaws.{IsUnderway}
use Rattle.path_sums.proofs.sums.walked.Given as goal

abbrev pub invariant-gates : goal.invariant-gates
invariant-gates l = record {
  touched : l.walk.touched ≡ l.touched.keys;
  walk : IsUnderway l.body.wires (number_by l.body.wires l.names.keys) l.body.gates (drop l.place l.body.gates) l.sign l.initial.totals l.totals l.walk;
}
