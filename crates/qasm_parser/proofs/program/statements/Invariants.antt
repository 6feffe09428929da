use Rattle.std.proofs.Common.{◌≡◌, ◌≤◌, length, map}
use Rattle.qasm_parser.specs.Tree.{statement, most_depth}
use Rattle.qasm_parser.specs.Ways.{the_end, until, walk}
use Rattle.qasm_parser.specs.Shapes.{statement_shape}
use Rattle.qasm_parser.specs.Reading.{all, more_statements, onto}
use Rattle.qasm_parser.proofs.program.statements.Given as goal

abbrev pub invariant-statements : goal.invariant-statements
invariant-statements l = record {
  same : onto (map statement l.list.items) l.deep (all (more_statements most_depth) l.cursor) ≡ all (more_statements most_depth) l.fn.cursor;
  walked : walk (until the_end statement_shape) l.cursor ≡ walk (until the_end statement_shape) l.fn.cursor;
  shorter : length l.cursor ≤ length l.fn.cursor;
}

abbrev pub decreases-statements : goal.decreases-statements
decreases-statements l = length l.cursor
