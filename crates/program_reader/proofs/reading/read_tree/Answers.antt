-- How many statements the tree has, and what names it declares.
use Rattle.std.proofs.Common.{sym}
use Rattle.std.proofs.lemmas.List.{length-map}
use Rattle.qasm_parser.specs.Tree.{statement}
use Rattle.program_reader.proofs.ReaderLaws.{few_of, names_of}
use Rattle.program_reader.proofs.reading.read_tree.Goals as goal

pub returns-clause-statements_limit : goal.returns-clause-statements_limit
returns-clause-statements_limit c =
    few_of c.tokens_are_lexemes.ensures.tokens_limit c.few_statements.ensures.count c.args.text.now c.in_ok-tokens.tokens.items _ _ c.requires c.in_ok-tokens.ensures.lexemes
    (rw c.deref.ensures.value at c.in_ok-parse.ensures.ok) (sym (length-map c.in_ok-parse.field-0.list.items statement))

pub returns-clause-names : goal.returns-clause-names
returns-clause-names c =
    names_of c.declares_names.ensures.names c.args.text.now c.in_ok-tokens.tokens.items _ c.in_ok-tokens.ensures.each
    (rw c.deref.ensures.value at c.in_ok-parse.ensures.ok)
