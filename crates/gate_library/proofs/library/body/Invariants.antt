use Rattle.std.proofs.Common.{◌≡◌, map, take}
use Rattle.gate_library.specs.Rows.{lines_of, row}
use Rattle.gate_library.specs.Views.{item}
use Rattle.gate_library.proofs.library.body.Given as goal

abbrev pub invariant-lines : goal.invariant-lines
invariant-lines l = map item l.list.items ≡ lines_of l.number (map row (take l.line-index l.lines))
