use Rattle.std.proofs.lemmas.List.Elements.{All-set}
use Rattle.rewrite_steps.specs.Known.{IsSpan}
use Rattle.rewrite_steps.proofs.KnownLaws.{spans-pushed}
use Rattle.rewrite_steps.proofs.known.Known.keep.Goals as goal

pub returns-then-place-self : goal.returns-then-place-self
returns-then-place-self c = λ gs slots known span. All-set (IsSpan gs slots) c.args.self.now.spans.items c.args.place c.args.span span known

pub returns-else-place-self : goal.returns-else-place-self
returns-else-place-self c = λ gs slots known span. All-set (IsSpan gs slots) c.args.self.now.spans.items c.args.place c.args.span span known

pub returns-then-is_err : goal.returns-then-is_err
returns-then-is_err c = λ gs slots known span. c.forget.ensures (record { wires = 0; gates = gs; slots = slots })

pub returns-else-is_err : goal.returns-else-is_err
returns-else-is_err c = λ gs slots known span. spans-pushed gs slots _ _ c.args.span _ c.push.ensures.items known span
