use Rattle.program_reader.proofs.WholeLaws.{accepted_or_refused}
use Rattle.program_reader.proofs.laws.text_accepted_or_refused.Goals as goal

pub returns : goal.returns
returns c = record {
  either =
      accepted_or_refused (record {
        lexed = c.lexed_or_refused.ensures.either;
        parsed = c.parsed_or_refused.ensures.either;
        checked = c.checked_or_refused.ensures.either;
        inlined = c.inlined_or_refused.ensures.either;
        cut = c.operations_are_cut.ensures.cut;
      });
}
