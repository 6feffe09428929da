use Rattle.std.proofs.Common.{◌≡◌, true, sym, subst}
use Rattle.trace_check.specs.Progress.{Moves}
use Rattle.trace_check.proofs.routed.routes.Goals as goal

pub returns-in-Emit-clause-applies : goal.returns-in-Emit-clause-applies
returns-in-Emit-clause-applies c = subst (λ w. c.emits.result ≡ true → Moves c.args.goal.now.gates w c.args.numbers.now c.args.state.now c.emits.new.state) (sym c.in-Emit.is) c.emits.ensures.applies

pub returns-in-Back-clause-applies : goal.returns-in-Back-clause-applies
returns-in-Back-clause-applies c = subst (λ w. c.backs.result ≡ true → Moves c.args.goal.now.gates w c.args.numbers.now c.args.state.now c.backs.new.state) (sym c.in-Back.is) c.backs.ensures.applies

pub returns-in-Elide-clause-applies : goal.returns-in-Elide-clause-applies
returns-in-Elide-clause-applies c = λ y. subst (λ w. Moves c.args.goal.now.gates w c.args.numbers.now c.args.state.now c.elides.new.state) (sym c.in-Elide.is) (c.elides.ensures.applies y c.args.goal.now.gates)

pub returns-in-Swap-clause-applies : goal.returns-in-Swap-clause-applies
returns-in-Swap-clause-applies c = subst (λ w. c.swaps.result ≡ true → Moves c.args.goal.now.gates w c.args.numbers.now c.args.state.now c.swaps.new.state) (sym c.in-Swap.is) c.swaps.ensures.applies

pub returns-in-Turn-clause-applies : goal.returns-in-Turn-clause-applies
returns-in-Turn-clause-applies c = subst (λ w. c.turns.result ≡ true → Moves c.args.goal.now.gates w c.args.numbers.now c.args.state.now c.turns.new.state) (sym c.in-Turn.is) c.turns.ensures.applies
