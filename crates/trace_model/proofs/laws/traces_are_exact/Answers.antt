use Rattle.trace_model.proofs.ExactLaws.{proves_once, stops_not_proves, stops_once}
use Rattle.trace_model.proofs.laws.traces_are_exact.Goals as goal

pub returns : goal.returns
returns c = record {
  not_both = stops_not_proves;
  one_line = stops_once;
  one_proof = λ e trace p q r s j k a b. let h = proves_once e trace p q r s j k a b in (h.first, (h.last, h.turn));
}
