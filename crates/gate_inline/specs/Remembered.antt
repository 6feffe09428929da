-- Working form. Calls whose operations are written already, and bodies that are being written out.
--     part us start end           what stands from one index to another
--     IsPart a us start end       an answer is what stands there
--     IsKept gates us k           the operations of a call are those that it tells
--     IsKeptPlace gates us o      the same of a call that may be absent;  AreKept: of each in a list
--     frame_meaning gates f       the operations of a body from its first line on
--     IsBegun gates us a f        a body's operations are those from its start on, then the answer a
--     AreBegun gates us a fs      each body's operations are those from its start on, then an answer, then those of the bodies that wait
use Rattle.std.specs.Prelude.{◌≡◌, ℕ, ◌-◌, ◌≤◌, List, [], ◌∷◌, All, Option, Some, None, Ok, drop, length, take}
use Rattle.unitary_model.specs.declared.Op.{Op}
use Rattle.gate_library.specs.Gates.{BoundGate}
use Rattle.gate_inline.specs.Frames.{frames_answer}
use Rattle.gate_inline.specs.Meanings.{Evaluation, followed, meaning_at, meanings}
use Rattle.gate_inline.specs.declared.body.Frame.{Frame}
use Rattle.gate_inline.specs.declared.memo.Kept.{Kept}

abbrev pub part : List Op → ℕ → ℕ → List Op
part us start end = take (end - start) (drop start us)

pub record IsPart (a : Evaluation) (us : List Op) (start end : ℕ) : Type 0 where
  pub order : start ≤ end
  pub within : end ≤ length us
  pub same : a ≡ Ok (part us start end)

abbrev pub IsKept : List BoundGate → List Op → Kept → Type 0
IsKept gates us k = IsPart (meaning_at (meanings gates) k.gate k.angles.items k.wires.items) us k.start k.end

abbrev pub IsKeptPlace : List BoundGate → List Op → Option Kept → Type 0
IsKeptPlace gates us None = Unit {0}
IsKeptPlace gates us (Some k) = IsKept gates us k

abbrev pub AreKept : List BoundGate → List Op → List (Option Kept) → Type 0
AreKept gates us places = All (IsKeptPlace gates us) places

abbrev pub frame_meaning : List BoundGate → Frame → Evaluation
frame_meaning gates f = meaning_at (meanings gates) f.own f.angles.items f.wires.items

pub record IsBegun (gates : List BoundGate) (us : List Op) (a : Evaluation) (f : Frame) : Type 0 where
  pub within : f.start ≤ length us
  pub same : followed (Ok (drop f.start us)) a ≡ frame_meaning gates f

abbrev pub AreBegun : List BoundGate → List Op → Evaluation → List Frame → Type 0
AreBegun gates us a [] = Unit {0}
AreBegun gates us a (f ∷ fs) = IsBegun gates us (followed a (frames_answer gates (f ∷ fs))) f × AreBegun gates us a fs
