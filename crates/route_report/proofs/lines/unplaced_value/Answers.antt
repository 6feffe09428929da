use Rattle.route_report.proofs.PutLaws.{unplaced-put}
use Rattle.route_report.proofs.lines.unplaced_value.Goals as goal

pub returns-in_ok-with_powers-in-Some : goal.returns-in_ok-with_powers-in-Some
returns-in_ok-with_powers-in-Some c =
    record { ok = unplaced-put c.args.report.now c.in-Some.parts _ c.in-Some.is (c.in_ok-with_powers-in-Some.ensures _ c.in_ok-value.ensures) }
