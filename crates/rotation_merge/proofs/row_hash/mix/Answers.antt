use Rattle.std.proofs.Common.{◌<◌, ◌^◌, bit_xor, refl, arith}
use Rattle.std.proofs.lemmas.Nat.{xor_lt}
use Rattle.std.specs.Hash.FoldHasher.{folded_multiply}
use Rattle.rotation_merge.proofs.row_hash.mix.Goals as goal

pub overflow_mul-product : goal.overflow_mul-product
overflow_mul-product c =
    let below : bit_xor c.args.state c.args.word < 2 ^ 64 = xor_lt 64 c.args.state c.args.word c.ranges.state.fits c.ranges.word.fits in
    omega (arith, below)

pub overflow_cast-result-2 : goal.overflow_cast-result-2
overflow_cast-result-2 c =
    let below : bit_xor c.args.state c.args.word < 2 ^ 64 = xor_lt 64 c.args.state c.args.word c.ranges.state.fits c.ranges.word.fits in
    omega (arith, below)

pub returns : goal.returns
unfolding folded_multiply
returns c = refl
