-- The gates are those of the table, so they keep what the table keeps.
use Rattle.std.proofs.Common.{◌≡◌, arith}
use Rattle.std.proofs.lemmas.Grind.{common_steps}
use Rattle.gate_expand.specs.Expansion.{expanded, turn_of}
use Rattle.gate_expand.proofs.ExpandedLaws.{SameUpTo-expanded, t_count-expanded, cx_count-expanded, odd_paths-expanded}
use Rattle.gate_expand.proofs.expansion.expand.Goals as goal

pub returns-clause-same : goal.returns-clause-same
returns-clause-same c =
    let gates : c.ops.body.gates ≡ expanded c.args.source.now.list = grind (arith, common_steps) in
    let turn : c.ops.turn ≡ turn_of c.args.source.now.list = grind (arith, common_steps) in
    rw (turn, gates) (SameUpTo-expanded c.args.source.now.wires c.args.source.now.list c.requires.fine)

pub returns-clause-t_count : goal.returns-clause-t_count
returns-clause-t_count c =
    let gates : c.ops.body.gates ≡ expanded c.args.source.now.list = grind (arith, common_steps) in
    let count = t_count-expanded c.args.source.now.wires c.args.source.now.list c.requires.fine in
    cc

pub returns-clause-cx_count : goal.returns-clause-cx_count
returns-clause-cx_count c =
    let gates : c.ops.body.gates ≡ expanded c.args.source.now.list = grind (arith, common_steps) in
    let count = cx_count-expanded c.args.source.now.list in
    cc

pub returns-clause-odd_paths : goal.returns-clause-odd_paths
returns-clause-odd_paths c = λ n.
    let gates : c.ops.body.gates ≡ expanded c.args.source.now.list = grind (arith, common_steps) in
    let paths = odd_paths-expanded c.args.source.now.wires c.args.source.now.list c.requires.fine n in
    cc
