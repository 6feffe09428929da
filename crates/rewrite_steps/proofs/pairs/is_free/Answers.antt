use Rattle.std.proofs.Common.{◌≡◌, ◌∙◌, ap, subst, sym, Some}
use Rattle.circuit_list.specs.declared.Gate.TheVariants.{H, X, P, Cx}
use Rattle.circuit_list.specs.Gates.{IsFine}
use Rattle.commute_rules.specs.Cancels.{Cancels}
use Rattle.rewrite_steps.specs.Pairs.{IsFree}
use Rattle.rewrite_steps.proofs.KnownLaws.{between-free, control-ends, cx-free, free-between, free-control, free-phase, free-target, phase-ends, phase-free, some-is, some-not, target-ends, x-ends}
use Rattle.rewrite_steps.proofs.pairs.is_free.Goals as goal

pub is_clear-requires-clause-ends : goal.is_clear-requires-clause-ends
is_clear-requires-clause-ends c =
    let b = c.args.body.now in
    let is : c.args.gate ≡ X c.in-X.q = c.in-X.is in
    x-ends c.in-X.q c.args.other b c.args.first c.args.second c.slot-from.result c.slot-to.result c.facts.ensures.ascend c.facts.ensures.slots
    (c.requires.gate ∙ ap Some is) c.requires.other c.requires.ordered (subst (λ g. Cancels g c.args.other) is c.requires.pair)
    c.slot-from.ensures.there c.slot-to.ensures.there c.slot-from.ensures.place c.slot-to.ensures.place

pub is_clear-requires-in-P-clause-ends : goal.is_clear-requires-in-P-clause-ends
is_clear-requires-in-P-clause-ends c =
    let b = c.args.body.now in
    let is : c.args.gate ≡ P c.in-P.k c.in-P.q = c.in-P.is in
    phase-ends c.in-P.k c.in-P.q c.args.other b c.args.first c.args.second c.slot-from.result c.slot-to.result c.facts.ensures.ascend c.facts.ensures.slots
    (c.requires.gate ∙ ap Some is) c.requires.other c.requires.ordered (subst (λ g. Cancels g c.args.other) is c.requires.pair)
    c.slot-from.ensures.there c.slot-to.ensures.there c.slot-from.ensures.place c.slot-to.ensures.place

pub is_clear-requires-in-Cx-clause-ends : goal.is_clear-requires-in-Cx-clause-ends
is_clear-requires-in-Cx-clause-ends c =
    let b = c.args.body.now in
    let is : c.args.gate ≡ Cx c.in-Cx.c c.in-Cx.t = c.in-Cx.is in
    control-ends c.in-Cx.c c.in-Cx.t c.args.other b c.args.first c.args.second c.slot-from.result c.slot-to.result (subst (IsFine b.wires) is c.requires.fine).1.1 c.facts.ensures.ascend c.facts.ensures.slots
    (c.requires.gate ∙ ap Some is) c.requires.other c.requires.ordered (subst (λ g. Cancels g c.args.other) is c.requires.pair)
    c.slot-from.ensures.there c.slot-to.ensures.there c.slot-from.ensures.place c.slot-to.ensures.place

pub is_clear-requires-in-Cx-2-clause-ends : goal.is_clear-requires-in-Cx-2-clause-ends
is_clear-requires-in-Cx-2-clause-ends c =
    let b = c.args.body.now in
    let is : c.args.gate ≡ Cx c.in-Cx.c c.in-Cx.t = c.in-Cx.is in
    target-ends c.in-Cx.c c.in-Cx.t c.args.other b c.args.first c.args.second c.slot-from.result c.slot-to.result (subst (IsFine b.wires) is c.requires.fine).1.1 c.facts.ensures.ascend c.facts.ensures.slots
    (c.requires.gate ∙ ap Some is) c.requires.other c.requires.ordered (subst (λ g. Cancels g c.args.other) is c.requires.pair)
    c.slot-from.ensures.there c.slot-to.ensures.there c.slot-from.ensures.place c.slot-to.ensures.place

pub returns-then-not-is_clear-clause-not : goal.returns-then-not-is_clear-clause-not
returns-then-not-is_clear-clause-not c = λ n free.
    let b = c.args.body.now in
    let is : c.args.gate ≡ Cx c.in-Cx.c c.in-Cx.t = c.in-Cx.is in
    c.is_clear-in-Cx.ensures.not c.if-not-is_clear.true
    (free-between (P 1 c.in-Cx.c) b.gates b.slots c.args.first c.args.second c.slot-from.result c.slot-to.result c.facts.ensures.ascend c.slot-from.ensures.there c.slot-to.ensures.there (free-control c.in-Cx.c c.in-Cx.t b.gates c.args.first c.args.second (subst (λ g. IsFree g b.gates c.args.first c.args.second) is free)))

pub returns-in-H-clause-free : goal.returns-in-H-clause-free
returns-in-H-clause-free c = λ y.
    let b = c.args.body.now in
    let is : c.args.gate ≡ H c.in-H.q = c.in-H.is in
    subst (λ g. IsFree g b.gates c.args.first c.args.second) (sym is)
    (between-free (H c.in-H.q) b.gates b.slots c.args.first c.args.second c.slot-from.result c.slot-to.result c.facts.ensures.ascend c.facts.ensures.slots c.slot-from.ensures.there c.slot-to.ensures.there (some-is c.ahead.result c.is_some.result c.is_some.ensures y c.ahead.ensures))

pub returns-in-H-clause-not : goal.returns-in-H-clause-not
returns-in-H-clause-not c = λ n free.
    let b = c.args.body.now in
    let is : c.args.gate ≡ H c.in-H.q = c.in-H.is in
    some-not c.ahead.result c.is_some.result c.is_some.ensures n c.ahead.ensures
    (free-between (H c.in-H.q) b.gates b.slots c.args.first c.args.second c.slot-from.result c.slot-to.result c.facts.ensures.ascend c.slot-from.ensures.there c.slot-to.ensures.there (subst (λ g. IsFree g b.gates c.args.first c.args.second) is free))

pub returns-in-X-clause-free : goal.returns-in-X-clause-free
returns-in-X-clause-free c = λ y.
    let b = c.args.body.now in
    let is : c.args.gate ≡ X c.in-X.q = c.in-X.is in
    subst (λ g. IsFree g b.gates c.args.first c.args.second) (sym is)
    (between-free (X c.in-X.q) b.gates b.slots c.args.first c.args.second c.slot-from.result c.slot-to.result c.facts.ensures.ascend c.facts.ensures.slots c.slot-from.ensures.there c.slot-to.ensures.there (c.is_clear.ensures.clear y))

pub returns-in-X-clause-not : goal.returns-in-X-clause-not
returns-in-X-clause-not c = λ n free.
    let b = c.args.body.now in
    let is : c.args.gate ≡ X c.in-X.q = c.in-X.is in
    c.is_clear.ensures.not n
    (free-between (X c.in-X.q) b.gates b.slots c.args.first c.args.second c.slot-from.result c.slot-to.result c.facts.ensures.ascend c.slot-from.ensures.there c.slot-to.ensures.there (subst (λ g. IsFree g b.gates c.args.first c.args.second) is free))

pub returns-in-P-clause-free : goal.returns-in-P-clause-free
returns-in-P-clause-free c = λ y.
    let b = c.args.body.now in
    let is : c.args.gate ≡ P c.in-P.k c.in-P.q = c.in-P.is in
    subst (λ g. IsFree g b.gates c.args.first c.args.second) (sym is)
    (phase-free c.in-P.k c.in-P.q b.gates c.args.first c.args.second (between-free (P 1 c.in-P.q) b.gates b.slots c.args.first c.args.second c.slot-from.result c.slot-to.result c.facts.ensures.ascend c.facts.ensures.slots c.slot-from.ensures.there c.slot-to.ensures.there (c.is_clear-in-P.ensures.clear y)))

pub returns-in-P-clause-not : goal.returns-in-P-clause-not
returns-in-P-clause-not c = λ n free.
    let b = c.args.body.now in
    let is : c.args.gate ≡ P c.in-P.k c.in-P.q = c.in-P.is in
    c.is_clear-in-P.ensures.not n
    (free-between (P 1 c.in-P.q) b.gates b.slots c.args.first c.args.second c.slot-from.result c.slot-to.result c.facts.ensures.ascend c.slot-from.ensures.there c.slot-to.ensures.there (free-phase c.in-P.k c.in-P.q b.gates c.args.first c.args.second (subst (λ g. IsFree g b.gates c.args.first c.args.second) is free)))

pub returns-else-not-is_clear-clause-free : goal.returns-else-not-is_clear-clause-free
returns-else-not-is_clear-clause-free c = λ y.
    let b = c.args.body.now in
    let is : c.args.gate ≡ Cx c.in-Cx.c c.in-Cx.t = c.in-Cx.is in
    subst (λ g. IsFree g b.gates c.args.first c.args.second) (sym is)
    (cx-free c.in-Cx.c c.in-Cx.t b.gates c.args.first c.args.second
    (between-free (P 1 c.in-Cx.c) b.gates b.slots c.args.first c.args.second c.slot-from.result c.slot-to.result c.facts.ensures.ascend c.facts.ensures.slots c.slot-from.ensures.there c.slot-to.ensures.there (c.is_clear-in-Cx.ensures.clear c.if-not-is_clear.false))
    (between-free (X c.in-Cx.t) b.gates b.slots c.args.first c.args.second c.slot-from.result c.slot-to.result c.facts.ensures.ascend c.facts.ensures.slots c.slot-from.ensures.there c.slot-to.ensures.there (c.is_clear-in-Cx-2.ensures.clear y)))

pub returns-else-not-is_clear-clause-not : goal.returns-else-not-is_clear-clause-not
returns-else-not-is_clear-clause-not c = λ n free.
    let b = c.args.body.now in
    let is : c.args.gate ≡ Cx c.in-Cx.c c.in-Cx.t = c.in-Cx.is in
    c.is_clear-in-Cx-2.ensures.not n
    (free-between (X c.in-Cx.t) b.gates b.slots c.args.first c.args.second c.slot-from.result c.slot-to.result c.facts.ensures.ascend c.slot-from.ensures.there c.slot-to.ensures.there (free-target c.in-Cx.c c.in-Cx.t b.gates c.args.first c.args.second (subst (λ g. IsFree g b.gates c.args.first c.args.second) is free)))
