use Rattle.std.proofs.Common.{◌≡◌, ◌+◌, ◌*◌, ◌%◌, ◌∙◌, sym, ap, arith, get_or}
use Rattle.std.specs.Int.{bit_at}
use Rattle.circuit_list.proofs.MarkLaws.{first_of_block, none_of_block}
use Rattle.circuit_list.proofs.marks.first_in_block.Goals as goal

pub returns-then-word-gt0 : goal.returns-then-word-gt0
returns-then-word-gt0 c =
    let place : c.word_of.result ≡ c.args.block * 64 + c.args.wire % 64 = omega (arith, c.word_of.ensures) in
    let word : get_or c.args.marks.now (c.args.block * 64 + c.args.wire % 64) 0 ≡ c.word_at-word.result = sym (c.word_at-word.ensures ∙ ap (λ k. get_or c.args.marks.now k 0) place) in
    first_of_block c.args.wire c.args.block c.lowest.result c.args.marks.now c.lowest.ensures.below
    (ap (λ n. bit_at n c.lowest.result) word ∙ c.lowest.ensures.on)
    (λ i lt. ap (λ n. bit_at n i) word ∙ c.lowest.ensures.none i lt)

pub returns-else-word-gt0 : goal.returns-else-word-gt0
returns-else-word-gt0 c =
    let place : c.word_of.result ≡ c.args.block * 64 + c.args.wire % 64 = omega (arith, c.word_of.ensures) in
    let word : get_or c.args.marks.now (c.args.block * 64 + c.args.wire % 64) 0 ≡ c.word_at-word.result = sym (c.word_at-word.ensures ∙ ap (λ k. get_or c.args.marks.now k 0) place) in
    none_of_block c.args.wire c.args.block c.args.marks.now (word ∙ omega arith)
