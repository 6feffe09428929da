-- The limit, and then the text.
use Rattle.std.proofs.Common.{◌≡◌, arith}
use Rattle.std.proofs.lemmas.Result.{IfErr-weaker, IfOk-weaker}
use Rattle.gate_inline.specs.Programs.{IsAccepted, Program, kept}
use Rattle.program_reader.specs.Refusals.{IsProgramFault}
use Rattle.program_reader.specs.Texts.{IsAcceptedText, IsTextFault}
use Rattle.program_reader.proofs.LimitLaws.{IsAccepted-within, IsProgramFault-within}
use Rattle.program_reader.proofs.reading.read_program.Goals as goal

pub returns-clause-ok : goal.returns-clause-ok
returns-clause-ok c =
    IfOk-weaker c.read_text.result
    (λ s. (p : Program) × IsAcceptedText c.args.text.now p × (s ≡ kept c.args.keep p)) (λ s. (p : Program) × IsAccepted c.args.text.now p × (s ≡ kept c.args.keep p))
    (λ s h. (h.0, IsAccepted-within c.args.text.now h.0 (omega (arith, c.if-text-gt-MOST_TEXT_BYTES.false)) h.1, h.2)) c.read_text.ensures.ok

pub returns-clause-err : goal.returns-clause-err
returns-clause-err c =
    IfErr-weaker c.read_text.result (IsTextFault c.args.text.now) (IsProgramFault c.args.text.now)
    (λ e h. IsProgramFault-within c.args.text.now e (omega (arith, c.if-text-gt-MOST_TEXT_BYTES.false)) h) c.read_text.ensures.err
