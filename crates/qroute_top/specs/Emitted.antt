-- Working form. What became of a text for the output and of a line for the report.
--   Sent S               a sink before and after, with what it tells of itself: its bytes, whether all is flushed, its count of faults
--   sent ..              the same, put together
--   IsEmitted text line Having o r n   the status n tells how far a text came to the output o and a line to the report r; `Having` says of
--                        some text and line that they are right, and text and line whether there is something for each
use Rattle.std.specs.Prelude.{◌≡◌, ◌⊎◌, ℕ, Bool, true, false, List, Option}
use Rattle.outside_io.specs.Bytes.{Gains, GainsPrefix, GainsUnlessFault}
use Rattle.outside_io.specs.Causes.{Rose}
use Rattle.qroute_top.specs.Causes.{output_fault_line}

pub record Sent (S : Type 0) : Type 0 where
  pub old : S
  pub new : S
  pub held : S → Option (List ℕ)
  pub flushed : S → Bool
  pub faults : S → ℕ

abbrev pub sent : {S : Type 0} → (S → Option (List ℕ)) → (S → Bool) → (S → ℕ) → S → S → Sent S
sent held flushed faults old new = record { old = old; new = new; held = held; flushed = flushed; faults = faults }

pub record IsEmitted {A B : Type 0} (text line : Bool) (Having : (List ℕ → List ℕ → Type 0) → Type 0) (o : Sent A) (r : Sent B) (n : ℕ) : Type 0 where
  pub ends : (n ≡ 0) ⊎ ((n ≡ 6) ⊎ ((n ≡ 7) ⊎ (n ≡ 8)))
  -- 0: all is written, and flushed
  pub done : n ≡ 0 → Having (λ x l. Gains (o.held o.old) (o.held o.new) x × Gains (r.held r.old) (r.held r.new) l)
  pub flushed : n ≡ 0 → (text ≡ true → o.flushed o.new ≡ true) × (line ≡ true → r.flushed r.new ≡ true)
  pub calm : n ≡ 0 → (o.faults o.new ≡ o.faults o.old) × (r.faults r.new ≡ r.faults r.old)
  -- 6: the output failed, and its fault line went to the report
  pub output : n ≡ 6 → Having (λ x l. GainsPrefix (o.held o.old) (o.held o.new) x) × Rose (o.faults o.old) (o.faults o.new)
      × GainsUnlessFault (r.held r.old) (r.held r.new) (r.faults r.old) (r.faults r.new) output_fault_line
  pub fault_flushed : n ≡ 6 → (Rose (r.faults r.old) (r.faults r.new) → ⊥) → r.flushed r.new ≡ true
  -- 7: memory was wanting before the first byte
  pub untouched : n ≡ 7 → (o.new ≡ o.old) × (r.new ≡ r.old)
  -- 8: the report failed after the text was written
  pub report : n ≡ 8 → Having (λ x l. Gains (o.held o.old) (o.held o.new) x × GainsPrefix (r.held r.old) (r.held r.new) l)
      × (text ≡ true → o.flushed o.new ≡ true) × (o.faults o.new ≡ o.faults o.old) × Rose (r.faults r.old) (r.faults r.new)
  -- where there is nothing for it, a sink doesn't fail and isn't touched
  pub no_fault : text ≡ false → n ≡ 6 → ⊥
  pub no_out : text ≡ false → o.new ≡ o.old
  pub no_report : line ≡ false → n ≡ 8 → ⊥
  pub no_line : line ≡ false → n ≡ 0 → r.new ≡ r.old
