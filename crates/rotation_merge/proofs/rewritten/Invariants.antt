-- What is left of the gates before this one was written.
use Rattle.std.proofs.Common.{drop}
use Rattle.rotation_merge.proofs.RunLaws.{IsWriting}
use Rattle.rotation_merge.proofs.rewritten.Given as goal

abbrev pub invariant-gates : goal.invariant-gates
invariant-gates l = IsWriting l.body.wires l.body.gates (drop l.i l.body.gates) l.totals l.read l.written
