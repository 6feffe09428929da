use Rattle.trace_verdict.proofs.VerdictLaws.{verdicts_once}
use Rattle.trace_verdict.proofs.laws.verdicts_are_exact.Goals as goal

pub returns : goal.returns
returns c = record {
  same =
      verdicts_once (record {
        means_once = c.means_once.ensures.once;
        no_refusal = c.accepted_text_has_no_refusal.ensures.no_refusal;
        refused_once = c.text_refused_once.ensures.once;
        not_both = c.traces_are_exact.ensures.not_both;
        one_line = c.traces_are_exact.ensures.one_line;
        one_proof = c.traces_are_exact.ensures.one_proof;
      });
}
