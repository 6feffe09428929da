use Rattle.rewrite_steps.proofs.RuleLaws.{exchanged}
use Rattle.rewrite_steps.proofs.windows.exchange.Goals as goal

pub returns-clause-yes : goal.returns-clause-yes
returns-clause-yes c = λ _.
    let a = c.args in
    let w = c.in-Some.window in
    exchanged a.k a.t a.place w.before w.behind w.last a.body.now.gates c.put.new.body.gates c.put-2.new.body.gates c.put-3.new.body.gates c.put-4.new.body.gates
    c.in-Some.ensures c.put.ensures.gates c.put-2.ensures.gates c.put-3.ensures.gates c.put-4.ensures.gates
