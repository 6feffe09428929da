use Rattle.std.proofs.Common.{◌∙◌, ◌<◌, ap, sym, subst, length}
use Rattle.trace_text.specs.Texts.{trace_of}
use Rattle.qroute_top.proofs.ClaimLaws.{trace-short}
use Rattle.qroute_top.proofs.claim.power_of.Goals as goal

pub check-requires-clause-short : goal.check-requires-clause-short
check-requires-clause-short c =
    let same = c.deref-2.ensures.value ∙ c.in_ok-trace.ensures.ok ∙ ap trace_of c.deref.ensures.value in
    subst (λ x. length x < 2147483648) (sym same) (trace-short c.args.target.now.text.items c.requires.short)
