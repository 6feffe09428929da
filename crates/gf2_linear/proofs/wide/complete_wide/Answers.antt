use Rattle.std.proofs.Common.{◌<◌, ◌^◌, arith}
use Rattle.gf2_linear.proofs.WideLaws.{among-all, completed}
use Rattle.gf2_linear.proofs.wide.complete_wide.Goals as goal

pub complete-requires-clause-below : goal.complete-requires-clause-below
complete-requires-clause-below c =
    among-all (λ r. r < 2 ^ c.args.wires) c.args.rows.now c.in_ok-basis.field-0.basis (λ v. omega (arith, c.in_ok-basis.ensures.among v)) c.requires.below

pub returns-clause-below : goal.returns-clause-below
returns-clause-below c =
    (completed _ c.requires.below c.in_ok-basis.ensures c.in_ok-matrix.ensures.places c.in_ok-matrix.ensures.wires c.facts.ensures.below
    c.in_ok-matrix.ensures.independent c.into_rows-most.ensures.value c.in_ok-append.ensures.items c.in_ok-wide.ensures).below

pub returns-clause-rank : goal.returns-clause-rank
returns-clause-rank c =
    (completed _ c.requires.below c.in_ok-basis.ensures c.in_ok-matrix.ensures.places c.in_ok-matrix.ensures.wires c.facts.ensures.below
    c.in_ok-matrix.ensures.independent c.into_rows-most.ensures.value c.in_ok-append.ensures.items c.in_ok-wide.ensures).rank

pub returns-clause-each : goal.returns-clause-each
returns-clause-each c =
    (completed _ c.requires.below c.in_ok-basis.ensures c.in_ok-matrix.ensures.places c.in_ok-matrix.ensures.wires c.facts.ensures.below
    c.in_ok-matrix.ensures.independent c.into_rows-most.ensures.value c.in_ok-append.ensures.items c.in_ok-wide.ensures).among
