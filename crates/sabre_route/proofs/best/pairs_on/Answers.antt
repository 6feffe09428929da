use Rattle.std.proofs.Common.{◌∙◌, ◌*◌, ◌^◌, ◌%◌, ap, refl, slice_index, slice_index_or, arith}
use Rattle.std.proofs.lemmas.List.{get_or-replicate, length-set}
use Rattle.std.proofs.lemmas.Nat.Bits.{bit_at-zero}
use Rattle.std.specs.Int.{bit_at}
use Rattle.std.specs.Int.Bits.{bit_or}
use Rattle.sabre_route.proofs.SwapLaws.{put-bit, told-more}
use Rattle.sabre_route.proofs.best.pairs_on.Goals as goal

pub pairs-init : goal.pairs-init
pairs-init c = (refl, λ a i lt. ap (λ n. bit_at n i) (get_or-replicate 256 a 0 0 (omega (arith, lt, c.requires.size))) ∙ bit_at-zero i)

pub pairs-preserved : goal.pairs-preserved
pairs-preserved c =
    let m = c.pairs.on in
    let ps = c.args.pairs.now in
    let k = c.pairs.number in
    let p = slice_index_or ps k (0, 0) in
    let w = c.requires.within k (0, 0) c.pairs-test.true in
    let one = put-bit m p.0 k in (
      length-set one p.1 (bit_or (slice_index one p.1) (1 * 2 ^ k % 4294967296)) ∙ length-set m p.0 (bit_or (slice_index m p.0) (1 * 2 ^ k % 4294967296)) ∙ c.pairs.invariant.0,
      λ a i lt.
          told-more m ps k a i c.pairs-test.true
          (omega (arith, c.pairs-test.true, c.requires.pairs_limit))
          (omega (arith, w.0, c.requires.size, c.pairs.invariant.0))
          (omega (arith, w.1, c.requires.size, c.pairs.invariant.0))
          (λ j. c.pairs.invariant.1 a j lt),
    )
