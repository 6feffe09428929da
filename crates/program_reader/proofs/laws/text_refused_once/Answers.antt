use Rattle.program_reader.proofs.OnceLaws.{refused_once}
use Rattle.program_reader.proofs.laws.text_refused_once.Goals as goal

pub returns : goal.returns
returns c = record {
  once =
      refused_once (record {
        laws = record {
          lexed_once = c.lexed_once.ensures.once;
          no_lex_fault = c.accepted_has_no_fault.ensures.no_fault;
          spelt_once = c.spelt_once.ensures.once;
          no_parse_fault = c.accepted_has_no_fault-2.ensures.no_fault;
          no_check_fault = c.accepted_has_no_fault-3.ensures.no_fault;
          no_inline_fault = c.inlined_has_no_fault.ensures.no_fault;
        };
        lex_refused_once = c.refused_once.ensures.once;
        parse_refused_once = c.refused_once-2.ensures.once;
        check_refused_once = c.refused_once-3.ensures.once;
        inline_refused_once = c.refused_once-4.ensures.once;
      });
}
