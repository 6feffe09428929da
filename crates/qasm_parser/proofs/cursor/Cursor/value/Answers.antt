use Rattle.std.proofs.Common.{◌∙◌, ap}
use Rattle.qasm_parser.specs.Symbols.{first_value}
use Rattle.qasm_parser.proofs.SymbolLaws.{first_value-symbols}
use Rattle.qasm_parser.proofs.cursor.Cursor.value.Goals as goal

pub returns-in-Some : goal.returns-in-Some
returns-in-Some c = record {
  value =
      let k = c.in-Some.ensures {u = tt} in
      first_value-symbols _ _ _ _ k.value c.number_of.ensures.value ∙ ap first_value c.self.view_is;
}
