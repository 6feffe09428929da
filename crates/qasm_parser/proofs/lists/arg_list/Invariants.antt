use Rattle.std.proofs.Common.{◌≡◌, ◌≤◌, length, None}
use Rattle.qasm_parser.specs.Ways.{many, this_mark, walk}
use Rattle.qasm_parser.specs.declared.symbols.Mark.TheVariants.{Comma}
use Rattle.qasm_parser.specs.Shapes.{arg_shape, list_shape}
use Rattle.qasm_parser.specs.Reading.{all, list_of, more_of, arg_of, onto}
use Rattle.qasm_parser.proofs.lists.arg_list.Given as goal

abbrev pub invariant-members : goal.invariant-members
invariant-members l = record {
  same : onto l.list.items None (all (more_of (arg_of l.plain)) l.cursor) ≡ list_of (arg_of l.plain) l.fn.cursor;
  walked : walk (many (this_mark Comma) (arg_shape l.plain)) l.cursor ≡ walk (list_shape (arg_shape l.plain)) l.fn.cursor;
  shorter : length l.cursor ≤ length l.fn.cursor;
}

abbrev pub decreases-members : goal.decreases-members
decreases-members l = length l.cursor
