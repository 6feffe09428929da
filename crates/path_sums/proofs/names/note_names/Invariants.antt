-- The H before this gate have their names, and are counted.
use Rattle.std.proofs.Common.{◌≡◌, drop, length}
use Rattle.std.specs.Prelude.{nat_eq}
use Rattle.indexmap.specs.IndexSet.{insert_all}
use Rattle.path_parity.specs.NamedSums.{unseen}
use Rattle.path_sums.specs.Names.{counts, seen_last, variables_of}
use Rattle.path_sums.proofs.names.note_names.Given as goal

abbrev pub invariant-gates : goal.invariant-gates
invariant-gates l = record {
  wires : length l.seen.items ≡ length l.touched.keys;
  seen : seen_last (drop l.place l.body.gates) (counts l.touched.keys l.seen.items) ≡ seen_last l.body.gates unseen;
  names : insert_all nat_eq l.names.keys (variables_of l.body.wires (drop l.place l.body.gates) (counts l.touched.keys l.seen.items)) ≡ insert_all nat_eq l.initial.names.keys (variables_of l.body.wires l.body.gates unseen);
}
