-- One count more.
use Rattle.std.proofs.Common.{[], ◌∷◌, length, get_or, ◌∙◌, ap, arith, length-append}
use Rattle.path_sums.proofs.NameLaws.{none-push}
use Rattle.path_sums.proofs.names.first_counts.Goals as goal

pub wires-preserved : goal.wires-preserved
wires-preserved c = record {
  wires = ap length c.in_ok-push.ensures.items ∙ omega (arith, length-append c.wires.seen.items (0 ∷ []), c.wires.invariant.wires);
  none = λ q. ap (λ xs. get_or xs q 0) c.in_ok-push.ensures.items ∙ none-push c.wires.seen.items q c.wires.invariant.none;
}
