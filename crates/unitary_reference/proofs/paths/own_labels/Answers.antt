use Rattle.std.proofs.Common.{refl, ◌∙◌, arith}
use Rattle.std.proofs.lemmas.List.{length-set}
use Rattle.unitary_reference.proofs.WalkLaws.{own-none, own-more}
use Rattle.unitary_reference.proofs.paths.own_labels.Goals as goal

pub loop-q-init : goal.loop-q-init
loop-q-init c = record { long = refl; own = own-none 64 }

pub loop-q-preserved : goal.loop-q-preserved
loop-q-preserved c =
    let h = c.loop-q.invariant in
    record { long = length-set _ _ _ ∙ h.long; own = own-more c.loop-q.labels c.loop-q.q (omega (arith, h.long, c.loop-q-test.true, c.requires.wires_limit)) (omega (arith, c.loop-q-test.true, c.requires.wires_limit)) h.own }
