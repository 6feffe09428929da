-- Working form.
-- The marks: for each block of 64 slots 64 words, one a wire, with a bit for each slot.
--   word_of w s                  where the word of a wire and of a slot's block stands
--   is_marked w ms s             whether slot s is marked on wire w
--   NoneMarked w ms a b          none of the slots from a to below b is marked on wire w
--   IsFirstMarked w ms a s       slot s is the first from a on that is marked on wire w
--   IsLastMarked w ms b s        slot s is the last below b that is marked on wire w
--   IsMarked es ms               each slot's block has its words, and a slot is marked on the wires that its gate is on
--   IsMarkedTo n es ms           the same of the slots below n, and no other is marked
use Rattle.std.specs.Prelude.{◌≡◌, ℕ, ◌+◌, ◌*◌, ◌/◌, ◌%◌, ◌<◌, ◌≤◌, ◌==◌, Bool, true, false, List, length, Option}
use Rattle.std.specs.Int.{bit_at}
use Rattle.std.proofs.Common.{get_or}
use Rattle.circuit_list.specs.declared.Gate.{Gate}
use Rattle.circuit_list.specs.Entries.{entry}
use Rattle.circuit_list.specs.Tree.{meets, wire_bit}

abbrev pub word_of : ℕ → ℕ → ℕ
word_of w s = s / 64 * 64 + w % 64

unfoldable pub is_marked : ℕ → List ℕ → ℕ → Bool
is_marked w ms s = bit_at (get_or ms (word_of w s) 0) (s % 64) == 1

abbrev pub NoneMarked : ℕ → List ℕ → ℕ → ℕ → Type 0
NoneMarked w ms a b = (s : ℕ) → a ≤ s → s < b → is_marked w ms s ≡ false

pub record IsFirstMarked (w : ℕ) (ms : List ℕ) (a s : ℕ) : Type 0 where
  pub from : a ≤ s
  pub on : is_marked w ms s ≡ true
  pub none : NoneMarked w ms a s

pub record IsLastMarked (w : ℕ) (ms : List ℕ) (b s : ℕ) : Type 0 where
  pub below : s < b
  pub on : is_marked w ms s ≡ true
  pub none : NoneMarked w ms (s + 1) b

pub record IsMarked (es : List (Option Gate)) (ms : List ℕ) : Type 0 where
  pub room : (s : ℕ) → s < length es → s / 64 * 64 + 64 ≤ length ms
  pub same : (w s : ℕ) → is_marked w ms s ≡ meets (wire_bit w) (entry es s)

pub record IsMarkedTo (n : ℕ) (es : List (Option Gate)) (ms : List ℕ) : Type 0 where
  pub room : (s : ℕ) → s < n → s / 64 * 64 + 64 ≤ length ms
  pub same : (w s : ℕ) → s < n → is_marked w ms s ≡ meets (wire_bit w) (entry es s)
  pub none : (w s : ℕ) → n ≤ s → is_marked w ms s ≡ false
