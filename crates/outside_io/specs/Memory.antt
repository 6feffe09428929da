-- What the forms in memory are to their callers.
--   CallLog                        the calls made so far, the calls that are to fail, the faults
--   no_calls                       the log before the first call
--   passed, failed                 the log after a call that went well, or failed
--   IsToFail                       the next call is one that is to fail
--   SourceState, SinkState         the forms whose calls fail by a list, as values
--   ShelfState, text_of            texts by their names; the text of a name
--   taken, written, flushed        the state after bytes went out or came, and after a flush
--   RefusesWrite                   the next write is to fail, or its bytes go past the room
--   RoomState, lasting, appended   the sink that never fails, and what it tells after a write
use Rattle.std.specs.Prelude.{ℕ, ◌+◌, ◌<◌, ◌&&◌, ◌==◌, ◌⊎◌, Bool, true, List, ◌++◌, Option, Some, None, find, option_map, length, drop, min, nat_le, Contains, if◌then◌else◌}
use Rattle.std.specs.Str.{bytes_eq}
use Rattle.outside_io.specs.Causes.{one_more}

-- calls made so far, the calls, counted from 1, that are to fail, and the faults so far
pub record CallLog : Type 0 where
  pub made : ℕ
  pub failing : List ℕ
  pub faults : ℕ

-- the log where no call was made
abbrev pub no_calls : List ℕ → CallLog
no_calls failing = record { made = 0; failing = failing; faults = 0 }

-- after a call that went well
abbrev pub passed : CallLog → CallLog
passed c = record c { made = one_more c.made }

-- after a call that failed
abbrev pub failed : CallLog → CallLog
failed c = record { made = one_more c.made; failing = c.failing; faults = one_more c.faults }

-- the next call is to fail
abbrev pub IsToFail : CallLog → Type 0
IsToFail c = Contains c.failing (one_more c.made)

-- the bytes that are left, and the most that one call moves
pub record SourceState : Type 0 where
  pub left : List ℕ
  pub most : ℕ
  pub calls : CallLog

-- after n bytes were taken
abbrev pub taken : SourceState → ℕ → SourceState
taken s n = record { left = drop n s.left; most = s.most; calls = passed s.calls }

-- the bytes that came, the most bytes that there is room for, and the most that one call moves
pub record SinkState : Type 0 where
  pub held : List ℕ
  pub capacity : ℕ
  pub most : ℕ
  pub flushed : Bool
  pub calls : CallLog

-- the next write of so many bytes is to fail, or goes past the room
abbrev pub RefusesWrite : SinkState → ℕ → Type 0
RefusesWrite s n = IsToFail s.calls ⊎ (s.capacity < length s.held + min n s.most)

-- after these bytes came
abbrev pub written : SinkState → List ℕ → SinkState
written s bytes = record {
  held = s.held ++ bytes;
  capacity = s.capacity;
  most = s.most;
  flushed = s.flushed && (length bytes == 0);
  calls = passed s.calls;
}

-- after a flush
abbrev pub flushed : SinkState → SinkState
flushed s = record s { flushed = true; calls = passed s.calls }

-- texts under names
pub record ShelfState : Type 0 where
  pub texts : List (List ℕ × List ℕ)
  pub calls : CallLog

-- the text of the first that has this name
abbrev pub text_of : List (List ℕ × List ℕ) → List ℕ → Option (List ℕ)
text_of texts name = option_map (λ t. t.1) (find (λ t. bytes_eq t.0 name) texts)

-- a sink that never fails: what it holds, while it has lost nothing, and its room
pub record RoomState : Type 0 where
  pub held : Option (List ℕ)
  pub capacity : ℕ
  pub flushed : Bool

-- what is told after these bytes: they came whole, or there was no room and nothing is told from then on
abbrev pub lasting : Option (List ℕ) → ℕ → List ℕ → Option (List ℕ)
lasting None capacity bytes = None
lasting (Some held) capacity bytes = if nat_le (length held + length bytes) capacity then Some (held ++ bytes) else None

-- after these bytes came
abbrev pub appended : RoomState → List ℕ → RoomState
appended s bytes = record {
  held = lasting s.held s.capacity bytes;
  capacity = s.capacity;
  flushed = s.flushed && (length bytes == 0);
}
