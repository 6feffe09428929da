use Rattle.std.proofs.Common.{◌≡◌, ℕ, ◌+◌, ◌≤◌, List, length, bit_xor, sym, ◌∙◌, arith}
use Rattle.std.proofs.lemmas.Simd.{get_or-chunk, get_or-put_chunk_above, get_or-put_chunk_at, get_or-put_chunk_below, get_or-zip2, length-chunk, length-zip2}
use Rattle.std.specs.Simd.Lanes.{chunk, zip2}
use Rattle.path_parity.proofs.packed.add_eight.Goals as goal

-- the eight sums
abbrev sums : (xs ys : List ℕ) (i k : ℕ) → List ℕ
sums xs ys i k = zip2 bit_xor (chunk i 8 xs) (chunk k 8 ys)

eight : (xs ys : List ℕ) (i k : ℕ) → i + 8 ≤ length xs → k + 8 ≤ length ys → length (sums xs ys i k) ≡ 8
eight xs ys i k a b = length-zip2 bit_xor (chunk i 8 xs) (chunk k 8 ys) (length-chunk i 8 xs a ∙ sym (length-chunk k 8 ys b)) ∙ length-chunk i 8 xs a

pub returns-clause-before : goal.returns-clause-before
returns-clause-before c = λ k l. get_or-put_chunk_below c.args.at c.args.row.now (sums c.args.row.now c.args.set.now c.args.at c.args.from) k 0 l

pub returns-clause-added : goal.returns-clause-added
returns-clause-added c = λ j l.
    let xs = c.args.row.now in
    let ys = c.args.set.now in
    let i = c.args.at in
    let k = c.args.from in
    let many : length (sums xs ys i k) ≡ 8 = eight xs ys i k c.requires.row c.requires.set in
    get_or-put_chunk_at i xs (sums xs ys i k) j 0 (omega (arith, many)) (omega (arith, many, c.requires.row))
    ∙ get_or-zip2 bit_xor (chunk i 8 xs) (chunk k 8 ys) j 0 0 0 (omega (arith, length-chunk i 8 xs c.requires.row)) (omega (arith, length-chunk k 8 ys c.requires.set))
    ∙ (λ t. bit_xor (get_or-chunk i 8 xs j 0 l t) (get_or-chunk k 8 ys j 0 l t))

pub returns-clause-after : goal.returns-clause-after
returns-clause-after c = λ k l.
    let xs = c.args.row.now in
    let ys = c.args.set.now in
    let many : length (sums xs ys c.args.at c.args.from) ≡ 8 = eight xs ys c.args.at c.args.from c.requires.row c.requires.set in
    get_or-put_chunk_above c.args.at xs (sums xs ys c.args.at c.args.from) k 0 (omega (arith, many))
