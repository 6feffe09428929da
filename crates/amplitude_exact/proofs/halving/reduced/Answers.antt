use Rattle.std.proofs.Common.{arith}
use Rattle.amplitude_exact.specs.Values.{amp_ring, ring_of}
use Rattle.amplitude_exact.proofs.EntryLaws.{entry-halved, entry-least, entry-whole, exact-same}
use Rattle.amplitude_exact.proofs.HalfLaws.{half-parts, no-half}
use Rattle.amplitude_exact.proofs.halving.reduced.Goals as goal

pub halves-init : goal.halves-init
halves-init c = λ us x y k. k

pub halves-preserved : goal.halves-preserved
halves-preserved c = λ us x y k. entry-halved us x y (ring_of c.halves.v) _ c.halves.e _ (half-parts (ring_of c.in-Some.half) (ring_of c.halves.v) c.in-Some.ensures.half_a c.in-Some.ensures.half_b c.in-Some.ensures.half_c c.in-Some.ensures.half_d) (omega (arith, c.halves-test.true)) (c.halves.invariant us x y k)

pub returns-in-None : goal.returns-in-None
returns-in-None c = record {
  exact =
      λ us x y k.
      exact-same us x y (ring_of c.halves.v) (amp_ring c.divided.result) c.halves.e c.divided.result.e c.divided.ensures.value c.divided.ensures.power
      (entry-least us x y (ring_of c.halves.v) c.halves.e (no-half (ring_of c.halves.v) (c.halved.ensures.none c.in-None.is)) (c.halves.invariant us x y k));
}

pub returns : goal.returns
returns c = record {
  exact =
      λ us x y k.
      exact-same us x y (ring_of c.halves.v) (amp_ring c.divided-2.result) c.halves.e c.divided-2.result.e c.divided-2.ensures.value c.divided-2.ensures.power
      (entry-whole us x y (ring_of c.halves.v) c.halves.e (omega (arith, c.halves-test.false)) (c.halves.invariant us x y k));
}
