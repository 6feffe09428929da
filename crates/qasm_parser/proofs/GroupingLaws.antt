-- The machine's numbers group parts as the levels of the grammar do.
--   next-some                 what comes next binds at all
--   takes-minus, takes-left   a frame takes its right part before a sign if what it makes may stand left of the sign
use Rattle.std.proofs.Common.{◌≡◌, ℕ, ◌≤◌, ◌∙◌, Bool, nat_le, Option, Some, None, refl, arith}
use Rattle.angle_fraction.specs.declared.signs.Binary.{Binary}
use Rattle.angle_fraction.specs.declared.signs.Binary.TheVariants.{Add, Sub, Mul, Div, Pow}
use Rattle.qasm_parser.specs.Expressions.{left_level, level, sign_level}
use Rattle.qasm_parser.specs.Machine.{before, binding, minus, next_binding, tightness, tightness_of}
use Rattle.qasm_parser.specs.Tree.{Expression, binary, negated, pi}
use Rattle.qasm_parser.proofs.OpenLaws.{binding-some}

pub next-some : (s : Option Binary) → 1 ≤ next_binding s
next-some None = omega arith
next-some (Some s) = binding-some s

minus-same : (s : Binary) → nat_le (left_level s) 3 ≡ nat_le (binding s) 2
minus-same Add = refl
minus-same Sub = refl
minus-same Mul = refl
minus-same Div = refl
minus-same Pow = refl

left-same : (l s : Binary) → nat_le (left_level s) (sign_level l) ≡ nat_le (binding s) (tightness_of l)
left-same Add Add = refl
left-same Add Sub = refl
left-same Add Mul = refl
left-same Add Div = refl
left-same Add Pow = refl
left-same Sub Add = refl
left-same Sub Sub = refl
left-same Sub Mul = refl
left-same Sub Div = refl
left-same Sub Pow = refl
left-same Mul Add = refl
left-same Mul Sub = refl
left-same Mul Mul = refl
left-same Mul Div = refl
left-same Mul Pow = refl
left-same Div Add = refl
left-same Div Sub = refl
left-same Div Mul = refl
left-same Div Div = refl
left-same Div Pow = refl
left-same Pow Add = refl
left-same Pow Sub = refl
left-same Pow Mul = refl
left-same Pow Div = refl
left-same Pow Pow = refl

pub takes-minus : (r : Bool) (s : Binary) → ((a : Expression) → r ≡ nat_le (left_level s) (level (negated a)))
    → r ≡ nat_le (next_binding (Some s)) (tightness minus)
takes-minus r s h = h pi ∙ minus-same s

pub takes-left : (r : Bool) (l s : Binary) (left : Option Expression) → ((a b : Expression) → r ≡ nat_le (left_level s) (level (binary l a b)))
    → r ≡ nat_le (next_binding (Some s)) (tightness (before l left))
takes-left r l s left h = h pi pi ∙ left-same l s
