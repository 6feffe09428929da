use Rattle.std.proofs.Common.{◌∙◌, arith, subst, sym}
use Rattle.rewrite_steps.specs.Known.{IsClear, IsSpan}
use Rattle.rewrite_steps.specs.declared.known.Span.{Span}
use Rattle.rewrite_steps.proofs.KnownLaws.{known-between, known-wider, less-between}
use Rattle.rewrite_steps.proofs.pairs.is_clear.Goals as goal

pub returns-in_default-clause-not : goal.returns-in_default-clause-not
returns-in_default-clause-not c = λ n clear.
    let b = c.args.body.now in
    c.in_default.ensures (less-between c.args.probe b.gates b.slots c.args.from c.args.to c.args.from c.around-found.result.span.from (omega arith) c.around-found.ensures.from clear)

pub returns-in_default-behind-clause-not : goal.returns-in_default-behind-clause-not
returns-in_default-behind-clause-not c = λ n clear.
    let b = c.args.body.now in
    c.in_default-behind.ensures (less-between c.args.probe b.gates b.slots c.args.from c.args.to c.around-found.result.span.to c.args.to c.around-found.ensures.to (omega arith) clear)

pub returns-then-saturating_add-lt-FAR-clause-clear : goal.returns-then-saturating_add-lt-FAR-clause-clear
returns-then-saturating_add-lt-FAR-clause-clear c = λ y.
    let b = c.args.body.now in
    let s : Span = c.around-found.result.span in
    let span : IsSpan b.gates b.slots s = c.around-found.ensures.span b.gates b.slots c.requires.known c.requires.ends.clear_last in
    known-between c.args.probe b.gates b.slots c.args.from s.from s.to c.args.to c.in-Some.ensures (subst (λ p. IsClear p b.gates b.slots s.from s.to) c.around-found.ensures.probe span) c.in-Some-behind.ensures

pub returns-clause-clear : goal.returns-clause-clear
returns-clause-clear c = λ y.
    let b = c.args.body.now in
    let s : Span = c.around-found.result.span in
    let span : IsSpan b.gates b.slots s = c.around-found.ensures.span b.gates b.slots c.requires.known c.requires.ends.clear_last in
    known-between c.args.probe b.gates b.slots c.args.from s.from s.to c.args.to c.in-Some.ensures (subst (λ p. IsClear p b.gates b.slots s.from s.to) c.around-found.ensures.probe span) c.in-Some-behind.ensures

pub returns-clause-known : goal.returns-clause-known
returns-clause-known c =
    let b = c.args.body.now in
    let s : Span = c.around-found.result.span in
    let w : Span = c.wider.result in
    let span : IsSpan b.gates b.slots s = c.around-found.ensures.span b.gates b.slots c.requires.known c.requires.ends.clear_last in
    let all = known-wider c.args.probe b.gates b.slots c.args.from s.from s.to c.args.to w.from w.to c.wider.ensures.from c.wider.ensures.to c.requires.ends.clear_first c.requires.ends.clear_last
    c.in-Some.ensures (subst (λ p. IsClear p b.gates b.slots s.from s.to) c.around-found.ensures.probe span) c.in-Some-behind.ensures in
    c.keep.ensures b.gates b.slots c.requires.known (subst (λ p. IsClear p b.gates b.slots w.from w.to) (sym (c.wider.ensures.probe ∙ c.around-found.ensures.probe)) all)
