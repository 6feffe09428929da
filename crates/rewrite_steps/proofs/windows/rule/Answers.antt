-- Rule by rule: the window was there and is changed, or it wasn't.
use Rattle.rewrite_steps.proofs.RuleLaws.{told, by_s, by_sdg, by_z, by_not, by_cnot, by_s_cnot, by_sdg_cnot}
use Rattle.rewrite_steps.proofs.windows.rule.Goals as goal

pub returns-then-number-eq1-clause-applies : goal.returns-then-number-eq1-clause-applies
returns-then-number-eq1-clause-applies c =
    let a = c.args in
    let old = a.body.now.gates in
    let new = c.turn.new.body.gates in
    told 1 a.place a.number old new 6 c.turn.result c.turn_if.result c.if-number-eq1.true c.turn_if.ensures
    (by_s c.in_ok-q.q a.place old new c.turn.result c.in_ok-q.ensures.0 c.turn.ensures.yes c.turn.ensures.no)

pub returns-then-number-eq2-clause-applies : goal.returns-then-number-eq2-clause-applies
returns-then-number-eq2-clause-applies c =
    let a = c.args in
    let old = a.body.now.gates in
    let new = c.turn-then-number-eq2.new.body.gates in
    told 2 a.place a.number old new 0 c.turn-then-number-eq2.result c.turn_if-then-number-eq2.result c.if-number-eq2.true c.turn_if-then-number-eq2.ensures
    (by_sdg c.in_ok-q.q a.place old new c.turn-then-number-eq2.result c.in_ok-q.ensures.0 c.turn-then-number-eq2.ensures.yes c.turn-then-number-eq2.ensures.no)

pub returns-then-number-eq3-clause-applies : goal.returns-then-number-eq3-clause-applies
returns-then-number-eq3-clause-applies c =
    let a = c.args in
    let old = a.body.now.gates in
    let new = c.turn-then-number-eq3.new.body.gates in
    told 3 a.place a.number old new 0 c.turn-then-number-eq3.result c.turn_if-then-number-eq3.result c.if-number-eq3.true c.turn_if-then-number-eq3.ensures
    (by_z c.in_ok-q.q a.place old new c.turn-then-number-eq3.result c.in_ok-q.ensures.0 c.turn-then-number-eq3.ensures.yes c.turn-then-number-eq3.ensures.no)

pub returns-then-number-eq4-clause-applies : goal.returns-then-number-eq4-clause-applies
returns-then-number-eq4-clause-applies c =
    let a = c.args in
    let old = a.body.now.gates in
    let new = c.turn-then-number-eq4.new.body.gates in
    told 4 a.place a.number old new 4 c.turn-then-number-eq4.result c.turn_if-then-number-eq4.result c.if-number-eq4.true c.turn_if-then-number-eq4.ensures
    (by_not c.in_ok-q.q a.place old new c.turn-then-number-eq4.result c.in_ok-q.ensures.0 c.turn-then-number-eq4.ensures.yes c.turn-then-number-eq4.ensures.no)

pub returns-then-number-eq5-clause-applies : goal.returns-then-number-eq5-clause-applies
returns-then-number-eq5-clause-applies c =
    let a = c.args in
    let old = a.body.now.gates in
    let new = c.turn_around.new.body.gates in
    told 5 a.place a.number old new 4 c.turn_around.result c.turn_if-then-number-eq5.result c.if-number-eq5.true c.turn_if-then-number-eq5.ensures
    (by_cnot a.place old new c.turn_around.result c.turn_around.ensures.yes c.turn_around.ensures.no)

pub returns-then-number-eq6-clause-applies : goal.returns-then-number-eq6-clause-applies
returns-then-number-eq6-clause-applies c =
    let a = c.args in
    let old = a.body.now.gates in
    let new = c.exchange.new.body.gates in
    told 6 a.place a.number old new 6 c.exchange.result c.turn_if-then-number-eq6.result c.if-number-eq6.true c.turn_if-then-number-eq6.ensures
    (by_s_cnot a.place old new c.exchange.result c.exchange.ensures.yes c.exchange.ensures.no)

pub returns-then-number-eq7-clause-applies : goal.returns-then-number-eq7-clause-applies
returns-then-number-eq7-clause-applies c =
    let a = c.args in
    let old = a.body.now.gates in
    let new = c.exchange-then-number-eq7.new.body.gates in
    told 7 a.place a.number old new 6 c.exchange-then-number-eq7.result c.turn_if-then-number-eq7.result c.if-number-eq7.true c.turn_if-then-number-eq7.ensures
    (by_sdg_cnot a.place old new c.exchange-then-number-eq7.result c.exchange-then-number-eq7.ensures.yes c.exchange-then-number-eq7.ensures.no)
