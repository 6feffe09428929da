use Rattle.std.proofs.Common.{◌≡◌, ◌≤◌, length, None}
use Rattle.qasm_parser.specs.Ways.{a_name, many, one, this_mark, walk}
use Rattle.qasm_parser.specs.declared.symbols.Mark.TheVariants.{Comma}
use Rattle.qasm_parser.specs.Shapes.{list_shape}
use Rattle.qasm_parser.specs.Reading.{all, list_of, more_of, name_of, onto}
use Rattle.qasm_parser.proofs.lists.names.Given as goal

abbrev pub invariant-names : goal.invariant-names
invariant-names l = record {
  same : onto l.list.items None (all (more_of name_of) l.cursor) ≡ list_of name_of l.fn.cursor;
  walked : walk (many (this_mark Comma) (one a_name)) l.cursor ≡ walk (list_shape (one a_name)) l.fn.cursor;
  shorter : length l.cursor ≤ length l.fn.cursor;
}

abbrev pub decreases-names : goal.decreases-names
decreases-names l = length l.cursor
