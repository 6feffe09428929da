use Rattle.std.proofs.Common.{◌∙◌}
use Rattle.path_sums.proofs.WalkedLaws.{difference-there}
use Rattle.path_sums.proofs.sums.same_sums.Goals as goal

pub returns-then-are_none : goal.returns-then-are_none
returns-then-are_none c =
    let h = difference-there c.args.old.now.wires c.args.old.now.gates c.args.new.now.gates c.in_ok-totals.field-0 c.in-Some.totals c.in-Some.is c.in_ok-totals.ensures.same in
    record { same = (h.sums.0 (c.are_none.ensures.0 c.if-are_none.true), c.constant.ensures ∙ h.turn) }
