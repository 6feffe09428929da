-- Working form. The operations of a gate on other wires.
--     renamed from to w       what stands in `to` where w first stands in `from`; w itself where it doesn't
--     renamed_op f o          an operation on the wires that f gives
--     renamed_answer f a      the same of all operations of an answer
--     IsNatural m             a gate's operations on other wires are the same operations, with these wires
--     IsRenaming from to      what stands in `to` is what stands in `from`, renamed; and 0 stays 0
use Rattle.std.specs.Prelude.{◌≡◌, ℕ, List, [], ◌∷◌, Ok, Err, if◌then◌else◌, map, nat_eq}
use Rattle.angle_fraction.specs.declared.Angle.{Angle}
use Rattle.unitary_model.specs.declared.Op.{Op}
use Rattle.unitary_model.specs.declared.Op.TheVariants.{U, Cx}
use Rattle.gate_inline.specs.Meanings.{Evaluation, Meaning}

abbrev pub renamed : List ℕ → List ℕ → ℕ → ℕ
renamed [] to w = w
renamed (x ∷ from) [] w = w
renamed (x ∷ from) (y ∷ to) w = if nat_eq x w then y else renamed from to w

abbrev pub renamed_op : (ℕ → ℕ) → Op → Op
renamed_op f (U a b c q) = U a b c (f q)
renamed_op f (Cx c t) = Cx (f c) (f t)

abbrev pub renamed_answer : (ℕ → ℕ) → Evaluation → Evaluation
renamed_answer f (Ok us) = Ok (map (renamed_op f) us)
renamed_answer f (Err e) = Err e

-- a line of a body that names no wire has wire 0, which is why that has to stay
abbrev pub IsNatural : Meaning → Type 0
IsNatural m = (f : ℕ → ℕ) → f 0 ≡ 0 → (angles : List Angle) (wires : List ℕ) → m angles (map f wires) ≡ renamed_answer f (m angles wires)

pub record IsRenaming (from to : List ℕ) : Type 0 where
  pub all : map (renamed from to) from ≡ to
  pub nought : renamed from to 0 ≡ 0
