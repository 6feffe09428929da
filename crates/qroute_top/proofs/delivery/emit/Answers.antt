-- What came of the program, the text or the line is right for the answer.
use Rattle.std.proofs.Common.{refl, []}
use Rattle.qroute_top.specs.declared.plan.Answer.TheVariants as answer
use Rattle.qroute_top.proofs.EmittedLaws.{IsEmitted-line, IsEmitted-answer}
use Rattle.qroute_top.proofs.delivery.emit.Goals as goal

pub returns-in-Program : goal.returns-in-Program
returns-in-Program g c = record {
  emitted = IsEmitted-answer c.args.answer.now (answer.Program c.in-Program.source c.in-Program.target) c.in-Program.is c.emit_target.ensures.emitted (λ Done came. came);
}

pub returns-in-Ok : goal.returns-in-Ok
returns-in-Ok g c = record {
  emitted = IsEmitted-answer c.args.answer.now (answer.Text c.in-Text.text) c.in-Text.is c.emit_text.ensures.emitted
      (λ Done came. (_, [], (c.deref.ensures.value, refl), came));
}

pub returns-in-Line : goal.returns-in-Line
returns-in-Line g c =
    let e = c.emit_line.ensures in
    record {
      emitted = IsEmitted-answer c.args.answer.now (answer.Line c.in-Line.line) c.in-Line.is (IsEmitted-line _ _ _ _ refl (e.ends, e.done, e.report))
          (λ Done came. ([], _, (refl, c.deref-in-Line.ensures.value), came));
    }
