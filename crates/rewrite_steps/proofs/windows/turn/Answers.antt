use Rattle.rewrite_steps.proofs.RuleLaws.{turned_to}
use Rattle.rewrite_steps.proofs.windows.turn.Goals as goal

pub returns-clause-yes : goal.returns-clause-yes
returns-clause-yes c = λ _.
    let a = c.args in
    let w = c.in-Some.window in
    turned_to a.q a.place w.second w.third a.middle a.inner a.outer a.body.now.gates c.put.new.body.gates c.put-2.new.body.gates c.put-3.new.body.gates
    c.in-Some.ensures.0 c.in-Some.ensures.1 c.put.ensures.gates c.put-2.ensures.gates c.put-3.ensures.gates
