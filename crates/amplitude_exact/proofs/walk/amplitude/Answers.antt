-- The entry of the list that the source has.
use Rattle.std.proofs.Common.{IfOk, List, subst}
use Rattle.unitary_model.specs.declared.Op.{Op}
use Rattle.amplitude_exact.specs.Entries.{IsExact}
use Rattle.amplitude_exact.specs.Values.{amp_ring}
use Rattle.amplitude_exact.proofs.walk.amplitude.Goals as goal

pub returns : goal.returns
returns c = record {
  exact = subst (λ (us : List Op). IfOk c.entry.result (λ v. IsExact us c.args.from.now c.args.to.now (amp_ring v) v.e)) c.as_slice.ensures.value c.entry.ensures.exact;
}
