use Rattle.route_report.proofs.PutLaws.{partless-put}
use Rattle.route_report.proofs.lines.partless_value.Goals as goal

pub returns-in_ok-with_member-in-Some : goal.returns-in_ok-with_member-in-Some
returns-in_ok-with_member-in-Some c =
    partless-put c.args.report.now c.in-Some.cost _ _ c.in-Some.is c.from.ensures
    (c.in_ok-with_member-in-Some.ensures.ok _ c.in_ok-value.ensures)
