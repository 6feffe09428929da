-- The lines so far.
use Rattle.std.proofs.Common.{◌≡◌, take}
use Rattle.linear_forms.proofs.line.lines_of.Given as goal

abbrev pub invariant-items : goal.invariant-items
invariant-items l = l.list.items ≡ take l.item-index l.body
