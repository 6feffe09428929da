-- The line behind the program.
use Rattle.qroute_top.proofs.EmittedLaws.{IsEmitted-behind}
use Rattle.qroute_top.proofs.delivery.emit_program.Goals as goal

pub returns-in-Ok-clause-emitted : goal.returns-in-Ok-clause-emitted
returns-in-Ok-clause-emitted g c =
    let e = c.emit_line.ensures in
    let p = c.in-Ok.ensures in
    IsEmitted-behind c.args.output.now c.args.line.now _ _ _ p.ok p.flushed p.cause.ok (e.ends, e.done, e.report)
