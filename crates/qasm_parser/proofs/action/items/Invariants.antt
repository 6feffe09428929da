use Rattle.std.proofs.Common.{◌≡◌, ◌≤◌, length, map}
use Rattle.qasm_parser.specs.Tree.{action, most_depth}
use Rattle.qasm_parser.specs.Ways.{until, this_mark, walk}
use Rattle.qasm_parser.specs.declared.symbols.Mark.TheVariants.{CloseBrace}
use Rattle.qasm_parser.specs.Shapes.{item_shape}
use Rattle.qasm_parser.specs.Reading.{all, more_items, onto}
use Rattle.qasm_parser.proofs.action.items.Given as goal

abbrev pub invariant-items : goal.invariant-items
invariant-items l = record {
  same : onto (map action l.list.items) l.deep (all (more_items most_depth) l.cursor) ≡ all (more_items most_depth) l.fn.cursor;
  walked : walk (until (this_mark CloseBrace) item_shape) l.cursor ≡ walk (until (this_mark CloseBrace) item_shape) l.fn.cursor;
  shorter : length l.cursor ≤ length l.fn.cursor;
}

abbrev pub decreases-items : goal.decreases-items
decreases-items l = length l.cursor
