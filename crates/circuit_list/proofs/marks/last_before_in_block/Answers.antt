use Rattle.std.proofs.Common.{◌≡◌, ◌-◌, ◌*◌, ◌^◌, ◌%◌, ◌∙◌, sym, ap, arith, get_or}
use Rattle.std.specs.Int.{bit_at}
use Rattle.std.specs.Int.Bits.{bit_and}
use Rattle.circuit_list.specs.Marks.{word_of}
use Rattle.circuit_list.proofs.TreeLaws.{shl_one}
use Rattle.circuit_list.proofs.MarkLaws.{last_before_here, none_before}
use Rattle.circuit_list.proofs.marks.last_before_in_block.Goals as goal

pub returns-then-rest-gt0 : goal.returns-then-rest-gt0
returns-then-rest-gt0 c =
    let word : c.word_at.result ≡ get_or c.args.marks.now (word_of c.args.wire c.args.slot) 0 = c.word_at.ensures ∙ ap (λ k. get_or c.args.marks.now k 0) c.word_of.ensures in
    let mask = shl_one (c.args.slot % 64) (omega arith) in
    let rest : bit_and (get_or c.args.marks.now (word_of c.args.wire c.args.slot) 0) (2 ^ (c.args.slot % 64) - 1) ≡ bit_and c.word_at.result (1 * 2 ^ (c.args.slot % 64) % 18446744073709551616 - 1) =
    λ i. bit_and (sym word i) (sym mask i - 1) in
    last_before_here c.args.wire c.args.slot c.highest.result c.args.marks.now
    (ap (λ n. bit_at n c.highest.result) rest ∙ c.highest.ensures.on)
    (λ i lt. ap (λ n. bit_at n i) rest ∙ c.highest.ensures.none i lt)

pub returns-else-rest-gt0 : goal.returns-else-rest-gt0
returns-else-rest-gt0 c =
    let word : c.word_at.result ≡ get_or c.args.marks.now (word_of c.args.wire c.args.slot) 0 = c.word_at.ensures ∙ ap (λ k. get_or c.args.marks.now k 0) c.word_of.ensures in
    let mask = shl_one (c.args.slot % 64) (omega arith) in
    let rest : bit_and (get_or c.args.marks.now (word_of c.args.wire c.args.slot) 0) (2 ^ (c.args.slot % 64) - 1) ≡ bit_and c.word_at.result (1 * 2 ^ (c.args.slot % 64) % 18446744073709551616 - 1) =
    λ i. bit_and (sym word i) (sym mask i - 1) in
    none_before c.args.wire c.args.slot c.args.marks.now (rest ∙ omega arith)
