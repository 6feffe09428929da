use Rattle.std.proofs.Common.{◌∙◌, nat_le, sym}
use Rattle.qasm_parser.specs.Frames.{frame_with}
use Rattle.qasm_parser.specs.Machine.{next_binding, tightness}
use Rattle.qasm_parser.proofs.GroupingLaws.{takes-left, takes-minus}
use Rattle.qasm_parser.proofs.frames.takes.Goals as goal

pub returns-in-Some : goal.returns-in-Some
returns-in-Some c left = takes-minus c.is_minus_first.result c.in-Some.sign c.is_minus_first.ensures.grouped
    ∙ (λ i. nat_le (next_binding (sym c.in-Some.is i)) (tightness (frame_with (sym c.in-Minus.is i) left)))

pub returns-in-Some-sign : goal.returns-in-Some-sign
returns-in-Some-sign c left = takes-left c.is_left_first.result c.in-Left.left c.in-Some-sign.sign left c.is_left_first.ensures.grouped
    ∙ (λ i. nat_le (next_binding (sym c.in-Some-sign.is i)) (tightness (frame_with (sym c.in-Left.is i) left)))
