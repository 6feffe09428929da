use Rattle.path_sums.specs.Sums.{compact_set}
use Rattle.path_sums.proofs.RowLaws.{term-more}
use Rattle.path_sums.proofs.rows.push_term.Goals as goal

pub returns-clause-adds : goal.returns-clause-adds
returns-clause-adds c = λ u.
    term-more c.args.terms.now.items c.push.new.self.items (record { set = c.in_ok-set.set; k = c.args.k }) (compact_set c.args.row.now) u c.in_ok-push.ensures.items c.in_ok-set.ensures.set
