use Rattle.trace_check.proofs.WordLaws.{items-small, some-of, word-read}
use Rattle.trace_check.proofs.words.read_words.Goals as goal

pub returns-in-Some : goal.returns-in-Some
returns-in-Some c = record {
  ok =
      let h = some-of _ c.in_ok-bytes.field-0 c.in-Some.bytes _ c.in-Some.is c.in_ok-bytes.ensures.ok in
      word-read c.args.line.now c.split_words.new.numbers.items c.in-Some.bytes.now c.word_of.result h.0 h.1 (items-small c.split_words.new.numbers.items c.type_inv.numbers) c.word_of.ensures;
}
