-- Working form. What a command has to write.
--   IsSparedTarget s m t   the target stands for the source with m spare wires
--   IsReport s t r       the report of the target
--   TellsReport s t line   the line is that of the report of the target
--   IsPlanned s t ..     the text of the target, and the line of its report
--   HasPlanned s t Done  some text and line are so, and this was done with them
--   has_text w, has_line w   whether an answer has something for the output, and for the report
--   IsFitAnswer w          what is asked of an answer before it is done
--   IsAnswerOf w ..          the text and the line that are right for an answer
--   HasAnswer w Done       some text and line are right for the answer, and this was done with them
use Rattle.std.specs.Prelude.{◌≡◌, ℕ, Bool, true, false, List, []}
use Rattle.gate_inline.specs.Programs.{IsWritten, Program}
use Rattle.route_report.specs.declared.lines.Report.{Report}
use Rattle.route_report.specs.Lines.{report_line}
use Rattle.trace_text.specs.Texts.{trace_of}
use Rattle.qroute_top.specs.declared.plan.Answer.{Answer}
use Rattle.qroute_top.specs.declared.plan.Answer.TheVariants as answer
use Rattle.circuit_target.specs.declared.target.Target.{Target}
use Rattle.qroute_top.specs.Delivered.{Reports}
use Rattle.circuit_target.specs.Targets.{IsFit, IsTold, target_program}
use Rattle.qroute_top.specs.WithSpares.{StandsWithSpares, ToldWithSpares}

pub record IsSparedTarget (s : Program) (m : ℕ) (t : Target) : Type 0 where
  pub stands : (told : Report) → IsTold t told → StandsWithSpares s (target_program s t) m told
  pub tells : (told : Report) → IsTold t told → ToldWithSpares (target_program s t) m told
  pub trace : t.trace.items ≡ []

pub record IsReport (s : Program) (t : Target) (r : Report) : Type 0 where
  pub numbers : Reports s (target_program s t) r
  pub told : IsTold t r

abbrev pub TellsReport : Program → Target → List ℕ → Type 0
TellsReport s t line = (told : Report) × (line ≡ report_line told) × IsReport s t told

pub record IsPlanned (s : Program) (t : Target) (text line : List ℕ) : Type 0 where
  pub written : IsWritten text (target_program s t)
  pub trace : trace_of text ≡ t.trace.items
  pub told : Report
  pub report : line ≡ report_line told
  pub numbers : IsReport s t told

abbrev pub HasPlanned : Program → Target → (List ℕ → List ℕ → Type 0) → Type 0
HasPlanned s t Done = (text : List ℕ) × (line : List ℕ) × IsPlanned s t text line × Done text line

abbrev pub has_text : Answer → Bool
has_text (answer.Program s t) = true
has_text (answer.Text text) = true
has_text (answer.Line line) = false

abbrev pub has_line : Answer → Bool
has_line (answer.Program s t) = true
has_line (answer.Text text) = false
has_line (answer.Line line) = true

abbrev pub IsFitAnswer : Answer → Type 0
IsFitAnswer (answer.Program s t) = IsFit s t
IsFitAnswer (answer.Text text) = Unit {0}
IsFitAnswer (answer.Line line) = Unit {0}

abbrev pub IsAnswerOf : Answer → List ℕ → List ℕ → Type 0
IsAnswerOf (answer.Program s t) text line = IsPlanned s t text line
IsAnswerOf (answer.Text v) text line = (text ≡ v.items) × (line ≡ [])
IsAnswerOf (answer.Line v) text line = (text ≡ []) × (line ≡ v.items)

abbrev pub HasAnswer : Answer → (List ℕ → List ℕ → Type 0) → Type 0
HasAnswer w Done = (text : List ℕ) × (line : List ℕ) × IsAnswerOf w text line × Done text line
