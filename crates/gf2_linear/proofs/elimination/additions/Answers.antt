use Rattle.std.proofs.Common.{◌≡◌, ◌<◌, length, arith}
use Rattle.gf2_linear.proofs.EliminationLaws.{eliminated-more, eliminated-length, eliminated-identity, eliminated-back, eliminated-times, eliminated-independent, eliminated-dependent, pairs-All}
use Rattle.gf2_linear.proofs.elimination.additions.Goals as goal

pub pivot_of-requires : goal.pivot_of-requires
pivot_of-requires c =
    let n : length c.columns.rest ≡ length c.args.matrix.now = eliminated-length c.args.matrix.now c.columns.rest c.columns.log.items c.columns.column c.columns.invariant in
    omega (arith, n)

pub returns-in-None-clause-none : goal.returns-in-None-clause-none
returns-in-None-clause-none c =
    let n : length c.columns.rest ≡ length c.args.matrix.now = eliminated-length c.args.matrix.now c.columns.rest c.columns.log.items c.columns.column c.columns.invariant in
    let l : c.columns.column < length c.columns.rest = omega (arith, n) in
    eliminated-dependent c.args.matrix.now c.columns.rest c.columns.log.items c.columns.column l c.pivot_of.ensures.below c.columns.invariant c.in-None.ensures.none

pub columns-preserved : goal.columns-preserved
columns-preserved c =
    let n : length c.columns.rest ≡ length c.args.matrix.now = eliminated-length c.args.matrix.now c.columns.rest c.columns.log.items c.columns.column c.columns.invariant in
    let l : c.columns.column < length c.columns.rest = omega (arith, n) in
    eliminated-more c.args.matrix.now c.columns.rest c.raise.new.matrix c.clear_column.new.matrix c.columns.log.items c.raise.new.log.items c.clear_column.new.log.items c.columns.column
    l c.columns.invariant c.in_ok-raise-in-Some.ensures.noted c.in_ok-clear_column-in-Some.ensures.noted c.in_ok-clear_column-in-Some.ensures.unit

pub returns-clause-ok : goal.returns-clause-ok
returns-clause-ok c =
    let n : c.columns.column ≡ length c.args.matrix.now = omega arith in
    eliminated-identity c.args.matrix.now c.columns.rest c.columns.log.items c.columns.column n c.facts.ensures.below c.columns.invariant

pub returns-clause-back : goal.returns-clause-back
returns-clause-back c =
    let n : c.columns.column ≡ length c.args.matrix.now = omega arith in
    eliminated-back c.args.matrix.now c.columns.rest c.columns.log.items c.columns.column n c.facts.ensures.below c.columns.invariant

pub returns-clause-times : goal.returns-clause-times
returns-clause-times c =
    let n : c.columns.column ≡ length c.args.matrix.now = omega arith in
    eliminated-times c.args.matrix.now c.columns.rest c.columns.log.items c.columns.column n c.facts.ensures.below c.columns.invariant

pub returns-clause-pairs : goal.returns-clause-pairs
returns-clause-pairs c = pairs-All (length c.args.matrix.now) c.columns.log.items c.columns.invariant.pairs

pub returns-clause-independent : goal.returns-clause-independent
returns-clause-independent c =
    let n : c.columns.column ≡ length c.args.matrix.now = omega arith in
    eliminated-independent c.args.matrix.now c.columns.rest c.columns.log.items c.columns.column n c.facts.ensures.below c.columns.invariant
