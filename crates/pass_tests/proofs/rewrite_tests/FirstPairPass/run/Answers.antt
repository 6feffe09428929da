use Rattle.std.proofs.Common.{arith}
use Rattle.pass_tests.proofs.rewrite_tests.PairLaws.{front_pair, pair_law, pair_shrinks, pair_keeps}
use Rattle.pass_tests.proofs.rewrite_tests.FirstPairPass.run.Goals as goal

pub returns-clause-law : goal.returns-clause-law
returns-clause-law c =
    let q = c.in-X-X.first in
    let gs = c.args.body.gates in
    let new = c.remove-2.new.self.gates in
    let e = front_pair q c.in-X-X.second gs c.remove.new.self.gates new c.in-X-X.ensures.there c.in-X-X.ensures'.there (omega arith) c.remove.ensures.gates c.remove-2.ensures.gates in
    pair_law c.args.body.wires q gs new e c.facts.ensures.fine

pub returns-clause-kept : goal.returns-clause-kept
returns-clause-kept c =
    let q = c.in-X-X.first in
    let gs = c.args.body.gates in
    let new = c.remove-2.new.self.gates in
    let e = front_pair q c.in-X-X.second gs c.remove.new.self.gates new c.in-X-X.ensures.there c.in-X-X.ensures'.there (omega arith) c.remove.ensures.gates c.remove-2.ensures.gates in
    (pair_shrinks q gs new e, pair_keeps q gs new e)
