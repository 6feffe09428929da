use Rattle.std.proofs.Common.{◌≡◌, ◌≤◌, length, map}
use Rattle.qasm_parser.specs.Tree.{expression, most_depth}
use Rattle.qasm_parser.specs.Ways.{many, sum, this_mark, walk}
use Rattle.qasm_parser.specs.declared.symbols.Mark.TheVariants.{Comma}
use Rattle.qasm_parser.specs.Shapes.{list_shape}
use Rattle.qasm_parser.specs.Reading.{all, angle_of, list_of, more_of, onto}
use Rattle.qasm_parser.proofs.apply.angle_list.Given as goal

abbrev pub invariant-angles : goal.invariant-angles
invariant-angles l = record {
  same : onto (map expression l.list.items) l.deep (all (more_of (angle_of most_depth)) l.cursor) ≡ list_of (angle_of most_depth) l.fn.cursor;
  walked : walk (many (this_mark Comma) sum) l.cursor ≡ walk (list_shape sum) l.fn.cursor;
  shorter : length l.cursor ≤ length l.fn.cursor;
}

abbrev pub decreases-angles : goal.decreases-angles
decreases-angles l = length l.cursor
