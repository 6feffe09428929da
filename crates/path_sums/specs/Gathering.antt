-- Working form. Terms that are gathered.
--     with_half ts half   some terms of the program, and half a turn on the set that some words are
--     gathered_size ts half      how many terms that makes, with none on the empty set
--     AddsTerm m k old new    the phase of the second is that of the first with k on the set m
--     IsSamePhase es fs   the phases are the same modulo 8
use Rattle.std.specs.Prelude.{◌≡◌, ℕ, ◌+◌, ◌%◌, cond, List, [], ◌∷◌, ◌++◌, length, map, min}
use Rattle.unitary_model.specs.Acts.{Bits}
use Rattle.path_parity.specs.PathFunctions.{parity, phase}
use Rattle.path_sums.specs.declared.term.Term.{Term}
use Rattle.path_sums.specs.declared.words.Word.{Word}
use Rattle.path_sums.specs.Terms.{term_of}
use Rattle.path_sums.specs.Words.{words_set}

abbrev pub with_half : List Term → List Word → List (ℕ × ℕ)
with_half ts half = map term_of ts ++ ((words_set half, 4) ∷ [])

abbrev pub gathered_size : List Term → List Word → ℕ
gathered_size ts half = length ts + min 1 (length half)

abbrev pub AddsTerm : ℕ → ℕ → List (ℕ × ℕ) → List (ℕ × ℕ) → Type 0
AddsTerm m k old new = (v : Bits) → phase new v % 8 ≡ (phase old v + cond (parity v m) k 0) % 8

abbrev pub IsSamePhase : List (ℕ × ℕ) → List (ℕ × ℕ) → Type 0
IsSamePhase es fs = (v : Bits) → phase es v % 8 ≡ phase fs v % 8
