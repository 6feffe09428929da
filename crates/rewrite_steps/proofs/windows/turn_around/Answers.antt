use Rattle.std.proofs.Common.{◌∙◌, ap, None}
use Rattle.rewrite_steps.specs.RuleWindows.{put_gates}
use Rattle.rewrite_steps.proofs.RuleLaws.{turned_around}
use Rattle.rewrite_steps.proofs.windows.turn_around.Goals as goal

pub returns-clause-yes : goal.returns-clause-yes
returns-clause-yes c = λ _.
    let gs = c.args.body.now.gates in
    let w = c.in-Some.window in
    turned_around c.args.place w.c w.t w.control_before w.target_before w.middle w.control_behind w.target_behind
    gs c.put.new.body.gates c.put-2.new.body.gates c.put-3.new.body.gates c.put-4.new.body.gates c.put-5.new.body.gates c.in-Some.ensures.0
    (c.put.ensures.gates ∙ ap (λ n. put_gates None n gs) c.max.ensures)
    (c.put-2.ensures.gates ∙ ap (λ n. put_gates None n c.put.new.body.gates) c.min.ensures)
    c.put-3.ensures.gates
    (c.put-4.ensures.gates ∙ ap (λ n. put_gates None n c.put-3.new.body.gates) c.max-2.ensures)
    c.put-5.ensures.gates
