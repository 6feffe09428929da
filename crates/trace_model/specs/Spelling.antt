-- Working form.
-- The words of a trace, as the code has them.
--     spelling w          the bytes of a word
--     IsWordIn v w        edition v has the word w
--     gate_word g         the bytes of the word of a gate
--     HasNoSpace l        no byte of l is a space
--     piece_size l        how many bytes stand before the first space of l;  piece l: these bytes
--     AreSmall ks         the numbers ks are below 2^32
use Rattle.std.specs.Prelude.{◌≢◌, ℕ, ◌^◌, ◌<◌, ◌≤◌, List, codes, nat_eq, not, take}
use Rattle.std.specs.List.{AllByRecursion, prefix_len}
use Rattle.circuit_list.specs.declared.Gate.{Gate}
use Rattle.circuit_list.specs.declared.Gate.TheVariants.{H, X, P, Cx}
use Rattle.trace_model.specs.declared.word.Word.{Word}
use Rattle.trace_model.specs.declared.word.Word.TheVariants as word

abbrev pub spelling : Word → List ℕ
spelling word.Trace = codes "TRACE"
spelling word.Rule = codes "rule"
spelling word.Both = codes "both"
spelling word.Join = codes "join"
spelling word.Sums = codes "sums"
spelling word.Part = codes "part"
spelling word.Phases = codes "phases"
spelling word.Goal = codes "goal"
spelling word.Meet = codes "meet"
spelling word.Place = codes "place"
spelling word.Emit = codes "emit"
spelling word.Back = codes "back"
spelling word.Elide = codes "elide"
spelling word.Swap = codes "swap"
spelling word.Turn = codes "turn"
spelling word.End = codes "end"

abbrev pub IsWordIn : ℕ → Word → Type 0
IsWordIn v word.Part = 2 ≤ v
IsWordIn v word.Phases = 2 ≤ v
IsWordIn v word.Goal = 2 ≤ v
IsWordIn v word.Meet = 2 ≤ v
IsWordIn v word.Elide = 2 ≤ v
IsWordIn v _ = Unit {0}

abbrev pub gate_word : Gate → List ℕ
gate_word (H q) = codes "H"
gate_word (X q) = codes "X"
gate_word (P k q) = codes "P"
gate_word (Cx c t) = codes "C"

abbrev pub HasNoSpace : List ℕ → Type 0
HasNoSpace l = AllByRecursion (λ b. b ≢ 32) l

abbrev pub AreSmall : List ℕ → Type 0
AreSmall ks = AllByRecursion (λ k. k < 2 ^ 32) ks

abbrev pub piece_size : List ℕ → ℕ
piece_size l = prefix_len (λ b. not (nat_eq b 32)) l

abbrev pub piece : List ℕ → List ℕ
piece l = take (piece_size l) l
