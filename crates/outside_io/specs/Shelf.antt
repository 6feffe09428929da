-- Texts by their names, where they are told: `None` (not told), `Some None` (no text), `Some (Some text)`.
--   LoadsText content max into     the text came, up to one byte past the limit
--   HasNoText content              a name that is told has no text
--   TellsText content text         this text is the one that is told, if anything is
--   IsTooLong content max          the name has a text that is longer than the limit
--   IsTextCause ..                 why a text is not had
use Rattle.std.specs.Prelude.{◌≡◌, ℕ, ◌+◌, ◌<◌, List, Option, Some, None, ⊤, length, take}
use Rattle.outside_io.specs.Causes.{Rose}
use Rattle.outside_io.specs.declared.TextFault.{TextFault}
use Rattle.outside_io.specs.declared.TextFault.TheVariants.{Failed, Absent, TooLong, NoMemory}

-- the text that was loaded: what the name has, up to one byte past the limit
abbrev pub LoadsText : Option (Option (List ℕ)) → ℕ → List ℕ → Type 0
LoadsText None max into = ⊤
LoadsText (Some None) max into = ⊥
LoadsText (Some (Some text)) max into = into ≡ take (max + 1) text

-- a name that is told has no text
abbrev pub HasNoText : Option (Option (List ℕ)) → Type 0
HasNoText None = ⊤
HasNoText (Some text) = text ≡ None

-- the text under a name is the one that is told, if any is
abbrev pub TellsText : Option (Option (List ℕ)) → List ℕ → Type 0
TellsText None text = ⊤
TellsText (Some told) text = told ≡ Some text

-- the name has a text, the told one where one is told, and it is longer than the limit
abbrev pub IsTooLong : Option (Option (List ℕ)) → ℕ → Type 0
IsTooLong content max = (text : List ℕ) × TellsText content text × (max < length text)

-- why a text is not had; want of memory is free
abbrev pub IsTextCause : Option (Option (List ℕ)) → ℕ → ℕ → ℕ → TextFault → Type 0
IsTextCause content max before after Failed = Rose before after
IsTextCause content max before after Absent = HasNoText content
IsTextCause content max before after TooLong = IsTooLong content max
IsTextCause content max before after NoMemory = ⊤
