-- What came of the program is flushed.
use Rattle.qroute_top.proofs.StatusLaws.{HasText-prefix, HasText-stays, on_err, on_ok}
use Rattle.qroute_top.proofs.delivery.send_program.Goals as goal

pub returns-clause-ok : goal.returns-clause-ok
returns-clause-ok g c =
    on_ok c.flush.result _
    (HasText-stays c.args.output.now (g.O.Sink.held c.args.out.now) (g.O.Sink.held c.write_program.new.sink) (g.O.Sink.held c.flush.new.self)
    c.in_ok-write_program.ensures.ok c.flush.ensures.stays)

pub returns-clause-err : goal.returns-clause-err
returns-clause-err g c =
    on_err c.flush.result _
    (HasText-prefix c.args.output.now (g.O.Sink.held c.args.out.now) (g.O.Sink.held c.write_program.new.sink) (g.O.Sink.held c.flush.new.self)
    c.in_ok-write_program.ensures.ok c.flush.ensures.stays)
