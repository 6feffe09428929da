use Rattle.std.proofs.Common.{◌≡◌, ◌<◌, ◌^◌, ◌/◌, ◌%◌, ◌∙◌, sym, ap, subst, arith, get_or}
use Rattle.std.specs.Int.{bit_at}
use Rattle.circuit_list.specs.Marks.{word_of}
use Rattle.circuit_list.proofs.MarkLaws.{first_behind_here, none_behind}
use Rattle.circuit_list.proofs.marks.first_behind_in_block.Goals as goal

pub returns-then-rest-gt0 : goal.returns-then-rest-gt0
returns-then-rest-gt0 c =
    let word : c.word_at.result ≡ get_or c.args.marks.now (word_of c.args.wire c.args.slot) 0 = c.word_at.ensures ∙ ap (λ k. get_or c.args.marks.now k 0) c.word_of.ensures in
    first_behind_here c.args.wire c.args.slot c.lowest.result c.args.marks.now
    (subst (λ n. n < 2 ^ 64) word (omega arith))
    (ap (λ n. bit_at (n / 2 ^ (c.args.slot % 64) / 2) c.lowest.result) (sym word) ∙ c.lowest.ensures.on)
    (λ i lt. ap (λ n. bit_at (n / 2 ^ (c.args.slot % 64) / 2) i) (sym word) ∙ c.lowest.ensures.none i lt)

pub returns-else-rest-gt0 : goal.returns-else-rest-gt0
returns-else-rest-gt0 c =
    let word : c.word_at.result ≡ get_or c.args.marks.now (word_of c.args.wire c.args.slot) 0 = c.word_at.ensures ∙ ap (λ k. get_or c.args.marks.now k 0) c.word_of.ensures in
    none_behind c.args.wire c.args.slot c.args.marks.now (ap (λ n. n / 2 ^ (c.args.slot % 64) / 2) (sym word) ∙ omega arith)
