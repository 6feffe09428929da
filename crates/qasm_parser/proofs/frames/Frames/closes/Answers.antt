use Rattle.std.proofs.Common.{◌-◌, ◌∙◌, List, None, ap, length, reverse, slice_get, sym}
use Rattle.qasm_parser.specs.declared.frames.Frame.{Frame}
use Rattle.qasm_parser.specs.Machine.{next_binding}
use Rattle.qasm_parser.proofs.FrameLaws.{closes-last}
use Rattle.qasm_parser.proofs.frames.Frames.closes.Goals as goal

pub returns-in-Some : goal.returns-in-Some
returns-in-Some c =
    let there = ap (λ (z : List Frame). slice_get z (length z - 1)) (sym c.deref.ensures.value) in
    c.takes.ensures None
    ∙ sym (closes-last (next_binding c.args.sign) c.args.self.now.kinds.items (reverse c.args.self.now.lefts.items) c.in-Some.frame.now None (there ∙ sym c.in-Some.ensures.value))
