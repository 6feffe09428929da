use Rattle.std.proofs.lemmas.Result.{IfOk-weaker}
use Rattle.serde_json.specs.View.{view}
use Rattle.route_report.proofs.SideLaws.{plain-sided, place-sided, statement-sided}
use Rattle.route_report.proofs.faults.fault_value.Goals as goal

pub returns-in_ok-plain_value-in-TextPlain : goal.returns-in_ok-plain_value-in-TextPlain
returns-in_ok-plain_value-in-TextPlain c = record {
  ok =
      IfOk-weaker c.with_side.result _ _
      (λ v. plain-sided c.args.fault.now c.in-TextPlain.code c.in-TextPlain.side _ (view v) c.in-TextPlain.is c.in_ok-plain_value-in-TextPlain.ensures)
      c.with_side.ensures;
}

pub returns-in_ok-place_value-in-TextPlace : goal.returns-in_ok-place_value-in-TextPlace
returns-in_ok-place_value-in-TextPlace c = record {
  ok =
      IfOk-weaker c.with_side-in-TextPlace.result _ _
      (λ v. place-sided c.args.fault.now c.in-TextPlace.code c.in-TextPlace.place c.in-TextPlace.side _ (view v) c.in-TextPlace.is
      c.in_ok-place_value-in-TextPlace.ensures)
      c.with_side-in-TextPlace.ensures;
}

pub returns-in_ok-statement_value-in-TextStatement : goal.returns-in_ok-statement_value-in-TextStatement
returns-in_ok-statement_value-in-TextStatement c = record {
  ok =
      IfOk-weaker c.with_side-in-TextStatement.result _ _
      (λ v. statement-sided c.args.fault.now c.in-TextStatement.code c.in-TextStatement.statement c.in-TextStatement.side _ (view v)
      c.in-TextStatement.is c.in_ok-statement_value-in-TextStatement.ensures)
      c.with_side-in-TextStatement.ensures;
}
