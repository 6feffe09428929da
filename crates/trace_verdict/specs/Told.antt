-- Working form. How an outcome is told as a verdict, and a text read.
--     verdict_of o        what it is told as
--     IsReadAs text s     the text is accepted as a program, and s is that program, as one part
use Rattle.std.specs.Prelude.{◌≡◌, ℕ, false, List}
use Rattle.gate_inline.specs.Programs.{Program, kept}
use Rattle.program_reader.specs.Texts.{IsAcceptedText}
use Rattle.trace_check.specs.declared.checker.Outcome.{Outcome}
use Rattle.trace_check.specs.declared.checker.Outcome.TheVariants.{Proved, Stopped}
use Rattle.trace_verdict.specs.declared.verdict.Verdict.{Verdict}
use Rattle.trace_verdict.specs.declared.verdict.Verdict.TheVariants.{Yes, No}

abbrev pub verdict_of : Outcome → Verdict
verdict_of (Proved initial last phase) = Yes initial last phase
verdict_of (Stopped line) = No line

abbrev pub IsReadAs : List ℕ → Program → Type 0
IsReadAs text s = (p : Program) × IsAcceptedText text p × (s ≡ kept false p)
