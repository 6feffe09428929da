-- Claims on two texts, the source's and the target's, whose comments hold a trace: what is found of them, and how `verify` ends.
--   limit_of side        the most bytes of a text: the source's as long as an input, the target's 64 MiB
--   IsTextRefused side text r    r is the first refusal of the text: its length, or else what is refused of a text of any length
--   Found                of a text: Missing where there is none, Bad where it is refused, or Good where it is accepted as a program
--   Finds content side x  this is found of the content of a name, the told one where one is told
--   Ending               how `verify` ends: a text is Absent, or Refused, or the trace is Stopped at a line, or the claim is Proved
--   IsJudged e trace x   by the trace the claim ends so
--   IsCompared p y x     with the source's program p and what is found of the target it ends so
--   IsBehind content f x  with what is found of the source, and the content of the target's name, it ends so
--   IsEnding content a b x   it ends so on the texts of these two names: the source is judged first, and the target only where that
--                        is accepted
--   AreContents content a b  what the first name has is told, and what the second has where the first one's text is accepted
--   IsVerified content a b text   the text is the line of the power up to which the target realises the source
--   Compares words a b   the words mean `verify` with these two names
--   ending_status x      the status that it ends with
use Rattle.std.specs.Prelude.{◌≡◌, ◌⊎◌, ℕ, ◌<◌, ◌≤◌, List, Option, Some, length}
use Rattle.outside_io.specs.Shelf.{HasNoText, TellsText}
use Rattle.gate_inline.specs.Programs.{Program, most_text_bytes}
use Rattle.program_reader.specs.Texts.{IsAcceptedText, IsTextRefusal}
use Rattle.program_reader.specs.declared.refusal.ProgramRefusal.{ProgramRefusal}
use Rattle.program_reader.specs.declared.refusal.ProgramRefusal.TheVariants.{TooLong}
use Rattle.command_line.specs.Commands.{command_of}
use Rattle.command_line.specs.Demands.{asked_texts}
use Rattle.command_line.specs.declared.commands.Command.{Command}
use Rattle.route_report.specs.Verdicts.{verdict_line}
use Rattle.route_report.specs.declared.faults.Side.{Side}
use Rattle.route_report.specs.declared.faults.Side.TheVariants as side
use Rattle.trace_model.specs.Proves.{Claim, Proves, StopsAt}
use Rattle.trace_text.specs.Texts.{trace_of}
use Rattle.unitary_model.specs.Realises.{Realises}
use Rattle.circuit_target.specs.Standing.{claim_of}

abbrev pub limit_of : Side → ℕ
limit_of side.Source = most_text_bytes
limit_of side.Target = 67108864

abbrev pub IsTextRefused : Side → List ℕ → ProgramRefusal → Type 0
IsTextRefused s text r = ((r ≡ TooLong) × (limit_of s < length text)) ⊎ ((length text ≤ limit_of s) × IsTextRefusal text r)

pub data Found : Type 0 where
  Missing : Found
  Bad : (refusal : ProgramRefusal) → Found
  Good : (text : List ℕ) (program : Program) → Found

abbrev pub Finds : Option (Option (List ℕ)) → Side → Found → Type 0
Finds content s Missing = HasNoText content
Finds content s (Bad r) = (text : List ℕ) × TellsText content text × IsTextRefused s text r
Finds content s (Good text p) = TellsText content text × (length text ≤ limit_of s) × IsAcceptedText text p

pub data Ending : Type 0 where
  Absent : Ending
  Refused : (text : Side) (refusal : ProgramRefusal) → Ending
  Stopped : (line : ℕ) → Ending
  Proved : (first last : List ℕ) (phase : ℕ) → Ending

abbrev pub IsJudged : Claim → List ℕ → Ending → Type 0
IsJudged e trace Absent = ⊥
IsJudged e trace (Refused s r) = ⊥
IsJudged e trace (Stopped line) = StopsAt e trace line
IsJudged e trace (Proved first last phase) = Proves e trace first last phase

abbrev pub IsCompared : Program → Found → Ending → Type 0
IsCompared p Missing x = x ≡ Absent
IsCompared p (Bad r) x = x ≡ Refused side.Target r
IsCompared p (Good text q) x = IsJudged (claim_of p q) (trace_of text) x

abbrev pub IsBehind : Option (Option (List ℕ)) → Found → Ending → Type 0
IsBehind content Missing x = x ≡ Absent
IsBehind content (Bad r) x = x ≡ Refused side.Source r
IsBehind content (Good text p) x = (y : Found) × Finds content side.Target y × IsCompared p y x

abbrev pub IsEnding : (List ℕ → Option (Option (List ℕ))) → List ℕ → List ℕ → Ending → Type 0
IsEnding content a b x = (y : Found) × Finds (content a) side.Source y × IsBehind (content b) y x

pub record AreContents (content : List ℕ → Option (Option (List ℕ))) (a b : List ℕ) : Type 0 where
  pub first : Option (List ℕ)
  pub first_told : content a ≡ Some first
  pub second : (text : List ℕ) (p : Program) → Finds (content a) side.Source (Good text p) → (other : Option (List ℕ)) × (content b ≡ Some other)

pub record IsVerified (content : List ℕ → Option (Option (List ℕ))) (a b : List ℕ) (text : List ℕ) : Type 0 where
  -- the two texts, and the programs that they are accepted as
  pub source_text : List ℕ
  pub source : Program
  pub source_told : Finds (content a) side.Source (Good source_text source)
  pub target_text : List ℕ
  pub target : Program
  pub target_told : Finds (content b) side.Target (Good target_text target)
  -- the trace in the comments of the target proves the claim, so it is so
  pub first : List ℕ
  pub last : List ℕ
  pub phase : ℕ
  pub proves : Proves (claim_of source target) (trace_of target_text) first last phase
  pub realises : Realises source.ops source.wires target.ops target.wires first last phase
  pub line : text ≡ verdict_line phase

pub record Compares (words : List (List ℕ)) (a b : List ℕ) : Type 0 where
  pub command : Command
  pub asked : command_of words ≡ Some command
  pub texts : asked_texts command ≡ Some (a, b)

abbrev pub ending_status : Ending → ℕ
ending_status Absent = 9
ending_status (Refused s r) = 3
ending_status (Stopped line) = 1
ending_status (Proved first last phase) = 0
