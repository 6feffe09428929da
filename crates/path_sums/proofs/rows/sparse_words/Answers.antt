use Rattle.std.proofs.Common.{arith}
use Rattle.path_sums.specs.Rows.{words_behind}
use Rattle.path_sums.proofs.RowLaws.{paired-end}
use Rattle.path_sums.proofs.rows.sparse_words.Goals as goal

pub returns : goal.returns
returns c = paired-end c.args.row.now c.words.words.items (words_behind c.args.row.now) c.words.index (omega (arith, c.words-test.false)) c.words.invariant.words
