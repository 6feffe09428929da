-- What the lines that are left say is what all of them say.
use Rattle.std.proofs.Common.{◌≡◌, length}
use Rattle.std.specs.List.{list_any}
use Rattle.trace_text.specs.Texts.{lines_of}
use Rattle.trace_model.specs.Lines.{is_later}
use Rattle.trace_check.proofs.editions.has_later.Given as goal

abbrev pub invariant-lines : goal.invariant-lines
invariant-lines l = record { later : list_any is_later (lines_of l.rest) ≡ list_any is_later (lines_of l.text) }

abbrev pub decreases-lines : goal.decreases-lines
decreases-lines l = length l.rest
