use Rattle.std.proofs.Common.{◌∙◌, sym}
use Rattle.qasm_parser.proofs.SymbolLaws.{word-value}
use Rattle.qasm_parser.proofs.symbols.number_of.Goals as goal

pub returns-in-Word : goal.returns-in-Word
returns-in-Word c = record {
  value = λ ts.
      c.nought.ensures.value ∙ sym (word-value _ _ ts c.in-Word.is);
}
