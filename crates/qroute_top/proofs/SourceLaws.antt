-- Why the program isn't read.
--   IsRefusedSource-long   an input that is longer than the limit
--   Tells-taken            what was taken to the end is what the input told
--   IsSourceCause-fault    a fault of the reader on what was taken
use Rattle.std.proofs.Common.{◌≡◌, ℕ, ◌+◌, ◌<◌, List, Option, Some, None, refl, ◌∙◌, length, replicate, arith, append-nil}
use Rattle.std.proofs.lemmas.Grind.{common_steps}
use Rattle.outside_io.specs.Bytes.{IsLongerThan, TakesAll, Tells}
use Rattle.gate_inline.specs.Programs.{most_text_bytes}
use Rattle.program_reader.specs.Refusals.{IsProgramFault}
use Rattle.program_reader.specs.declared.refusal.ProgramFault.{ProgramFault}
use Rattle.program_reader.specs.declared.refusal.ProgramFault.TheVariants as read_fault
use Rattle.program_reader.specs.declared.refusal.ProgramRefusal.TheVariants.{TooLong}
use Rattle.qroute_top.specs.Causes.{IsRefusedSource, IsSourceCause}
use Rattle.qroute_top.specs.Stops.{unread}
use Rattle.qroute_top.specs.declared.stops.SourceStop.{SourceStop}

-- the limit is a variable here
long_list : (n : ℕ) → (xs : List ℕ) × (n < length xs)
long_list n =
    let long : n < length (replicate (n + 1) 0) = grind (arith, common_steps) in
    (replicate (n + 1) 0, long)

longer_told : (input : Option (List ℕ)) (max : ℕ) → IsLongerThan input max → (text : List ℕ) × Tells input text × (max < length text)
longer_told None max h = ((long_list max).0, tt, (long_list max).1)
longer_told (Some text) max h = (text, refl, h)

pub IsRefusedSource-long : (input : Option (List ℕ)) → IsLongerThan input most_text_bytes → IsRefusedSource input TooLong
IsRefusedSource-long input h = longer_told input most_text_bytes h

pub Tells-taken : (old new : Option (List ℕ)) (source : List ℕ) → TakesAll old new source → Tells old source
Tells-taken None new source t = tt
Tells-taken (Some xs) None source t = absurd t.0
Tells-taken (Some xs) (Some ys) source t = t.0 ∙ rw t.1 (append-nil source)

pub IsSourceCause-fault : (old new : Option (List ℕ)) (before after : ℕ) (source : List ℕ) (f : ProgramFault) (s : SourceStop) → TakesAll old new source
    → IsProgramFault source f → s ≡ unread f → IsSourceCause old before after s
IsSourceCause-fault old new before after source read_fault.NoMemory s t is e = rw e tt
IsSourceCause-fault old new before after source (read_fault.Refused r) s t is e = rw e (source, Tells-taken old new source t, is)

pub ruleset read = (IsRefusedSource-long, IsSourceCause-fault)
