-- What is emitted of one thing is emitted of another for which it is right too.
--   IsEmitted-within     where what is right for the one is right for the other
--   IsEmitted-answer       .. for an answer
--   EndsLine, IsEmitted-line   a line alone;  IsEmitted-behind: behind a program that came
use Rattle.std.proofs.Common.{◌≡◌, ◌⊎◌, inl, inr, ℕ, ◌<◌, Bool, true, false, List, ap, arith, subst, sym, []}
use Rattle.outside_io.specs.Bytes.{Gains, GainsPrefix}
use Rattle.outside_io.specs.Causes.{Rose}
use Rattle.qasm_writer.specs.Outputs.{HasText}
use Rattle.qasm_writer.specs.declared.output.Output.{Output}
use Rattle.qroute_top.specs.Emitted.{IsEmitted, Sent}
use Rattle.qroute_top.specs.Plans.{HasAnswer, has_line, has_text}
use Rattle.qroute_top.specs.declared.plan.Answer.{Answer}
use Rattle.qroute_top.proofs.StatusLaws.{Gains-nothing}

pub IsEmitted-within : {A B : Type 0} {text line : Bool} {P Q : (List ℕ → List ℕ → Type 0) → Type 0} {o : Sent A} {r : Sent B} {n : ℕ}
    → IsEmitted text line P o r n → ((Done : List ℕ → List ℕ → Type 0) → P Done → Q Done) → IsEmitted text line Q o r n
IsEmitted-within e on = record {
  ends = e.ends;
  done = λ z. on _ (e.done z);
  flushed = e.flushed;
  calm = e.calm;
  output = λ z. let h = e.output z in (on _ h.0, h.1, h.2);
  fault_flushed = e.fault_flushed;
  untouched = e.untouched;
  report = λ z. let h = e.report z in (on _ h.0, h.1, h.2, h.3);
  no_fault = e.no_fault;
  no_out = e.no_out;
  no_report = e.no_report;
  no_line = e.no_line;
}

pub IsEmitted-answer : {A B : Type 0} {P : (List ℕ → List ℕ → Type 0) → Type 0} {o : Sent A} {r : Sent B} {n : ℕ} (w v : Answer) → w ≡ v
    → IsEmitted (has_text v) (has_line v) P o r n → ((Done : List ℕ → List ℕ → Type 0) → P Done → HasAnswer v Done)
    → IsEmitted (has_text w) (has_line w) (HasAnswer w) o r n
IsEmitted-answer {o = o} {r = r} {n = n} w v is e on =
    subst (λ (x : Answer). IsEmitted (has_text x) (has_line x) (HasAnswer x) o r n) (sym is) (IsEmitted-within e on)

-- how a line ends
abbrev pub EndsLine : {B : Type 0} → List ℕ → Sent B → ℕ → Type 0
EndsLine line r n = ((n ≡ 0) ⊎ (n ≡ 8))
    × (n ≡ 0 → Gains (r.held r.old) (r.held r.new) line × (r.flushed r.new ≡ true) × (r.faults r.new ≡ r.faults r.old))
    × (n ≡ 8 → GainsPrefix (r.held r.old) (r.held r.new) line × Rose (r.faults r.old) (r.faults r.new))

late : (k : ℕ) → (k ≡ 0) ⊎ (k ≡ 8) → (k ≡ 0) ⊎ ((k ≡ 6) ⊎ ((k ≡ 7) ⊎ (k ≡ 8)))
late k (inl z) = inl z
late k (inr e) = inr (inr (inr e))

not_between : (j : ℕ) → 0 < j → j < 8 → (k : ℕ) → (k ≡ 0) ⊎ (k ≡ 8) → k ≡ j → ⊥
not_between j more less k end is = grind arith

pub IsEmitted-line : {A B : Type 0} (line : List ℕ) (o : Sent A) (r : Sent B) (n : ℕ) → o.new ≡ o.old → EndsLine line r n
    → IsEmitted false true (λ Done. Done [] line) o r n
IsEmitted-line line o r n same (ends, done, report) =
    let nothing : Gains (o.held o.old) (o.held o.new) [] = subst (λ x. Gains (o.held o.old) (o.held x) []) (sym same) (Gains-nothing (o.held o.old)) in
    record {
      ends = late n ends;
      done = λ z. (nothing, (done z).0);
      flushed = λ z. ((λ no. absurd (cc)), (λ yes. (done z).1));
      calm = λ z. (ap o.faults same, (done z).2);
      output = λ six. absurd (not_between 6 (omega arith) (omega arith) n ends six);
      fault_flushed = λ six. absurd (not_between 6 (omega arith) (omega arith) n ends six);
      untouched = λ seven. absurd (not_between 7 (omega arith) (omega arith) n ends seven);
      report = λ e. let h = report e in ((nothing, h.0), (λ no. absurd (cc)), ap o.faults same, h.1);
      no_fault = λ no six. not_between 6 (omega arith) (omega arith) n ends six;
      no_out = λ no. same;
      no_report = λ no e. cc;
      no_line = λ no z. absurd (cc);
    }

pub IsEmitted-behind : {A B : Type 0} (x : Output) (line : List ℕ) (o : Sent A) (r : Sent B) (n : ℕ)
    → HasText x (λ text. Gains (o.held o.old) (o.held o.new) text) → o.flushed o.new ≡ true → o.faults o.new ≡ o.faults o.old → EndsLine line r n
    → IsEmitted true true (λ Done. HasText x (λ text. Done text line)) o r n
IsEmitted-behind x line o r n (text, is, written, trace, came) through calm (ends, done, report) = record {
  ends = late n ends;
  done = λ z. (text, is, written, trace, (came, (done z).0));
  flushed = λ z. ((λ yes. through), (λ yes. (done z).1));
  calm = λ z. (calm, (done z).2);
  output = λ six. absurd (not_between 6 (omega arith) (omega arith) n ends six);
  fault_flushed = λ six. absurd (not_between 6 (omega arith) (omega arith) n ends six);
  untouched = λ seven. absurd (not_between 7 (omega arith) (omega arith) n ends seven);
  report = λ e. let h = report e in ((text, is, written, trace, (came, h.0)), (λ yes. through), calm, h.1);
  no_fault = λ no six. absurd (cc);
  no_out = λ no. absurd (cc);
  no_report = λ no e. cc;
  no_line = λ no z. absurd (cc);
}
