-- The two gate tables, written out: each gate with its name, its parameters, its qubits and the lines of its body.
--   Angle       an angle: nought, pi, a parameter by its name, minus an angle, or one divided by a whole number
--   nought, pi, param, minus, over   these, in this order
--   Line        a line of a body: a gate by its name, its angles, and the qubits that it is applied to
--   Entry       a gate of the tables
--   gate        a gate of this name, with these parameters, qubits and lines
--   by          the parameter of this name, as an angle
--   line        a line with this gate, these angles and these qubits
--   to, to_two, to_three   a gate without angles, applied to one qubit, two or three
--   turn        a gate with angles, applied to one qubit
--   standard    the first table, the library's listing
--   added       the second table, what today's producers write besides
use Prim.Native.String.{String}
use Rattle.std.specs.Prelude.{ℕ, List, [], ◌∷◌, codes, map}

pub data Angle : Type 0 where
  nought : Angle
  pi : Angle
  param : (name : List ℕ) → Angle
  minus : (part : Angle) → Angle
  over : (part : Angle) (by : ℕ) → Angle

pub record Line : Type 0 where
  pub gate : List ℕ
  pub angles : List Angle
  pub qubits : List (List ℕ)

pub record Entry : Type 0 where
  pub name : List ℕ
  pub params : List (List ℕ)
  pub qubits : List (List ℕ)
  pub body : List Line

abbrev pub gate : String → List String → List String → List Line → Entry
gate name params qubits body = record { name = codes name; params = map codes params; qubits = map codes qubits; body = body }

abbrev pub by : String → Angle
by name = param (codes name)

abbrev pub line : String → List Angle → List String → Line
line name angles qubits = record { gate = codes name; angles = angles; qubits = map codes qubits }

abbrev pub turn : String → List Angle → String → Line
turn name angles q = line name angles (q ∷ [])

abbrev pub to : String → String → Line
to name q = line name [] (q ∷ [])

abbrev pub to_two : String → String → String → Line
to_two name c t = line name [] (c ∷ t ∷ [])

abbrev pub to_three : String → String → String → String → Line
to_three name a b c = line name [] (a ∷ b ∷ c ∷ [])

-- ---- the library's listing
unfoldable pub standard : List Entry
standard =
    gate "u3" ("t" ∷ "p" ∷ "l" ∷ []) ("q" ∷ []) (turn "U" (by "t" ∷ by "p" ∷ by "l" ∷ []) "q" ∷ [])
    ∷ gate "u2" ("p" ∷ "l" ∷ []) ("q" ∷ []) (turn "U" (over pi 2 ∷ by "p" ∷ by "l" ∷ []) "q" ∷ [])
    ∷ gate "u1" ("l" ∷ []) ("q" ∷ []) (turn "U" (nought ∷ nought ∷ by "l" ∷ []) "q" ∷ [])
    ∷ gate "cx" [] ("c" ∷ "t" ∷ []) (to_two "CX" "c" "t" ∷ [])
    ∷ gate "id" [] ("a" ∷ []) (turn "U" (nought ∷ nought ∷ nought ∷ []) "a" ∷ [])
    ∷ gate "x" [] ("a" ∷ []) (turn "u3" (pi ∷ nought ∷ pi ∷ []) "a" ∷ [])
    ∷ gate "y" [] ("a" ∷ []) (turn "u3" (pi ∷ over pi 2 ∷ over pi 2 ∷ []) "a" ∷ [])
    ∷ gate "z" [] ("a" ∷ []) (turn "u1" (pi ∷ []) "a" ∷ [])
    ∷ gate "h" [] ("a" ∷ []) (turn "u2" (nought ∷ pi ∷ []) "a" ∷ [])
    ∷ gate "s" [] ("a" ∷ []) (turn "u1" (over pi 2 ∷ []) "a" ∷ [])
    ∷ gate "sdg" [] ("a" ∷ []) (turn "u1" (over (minus pi) 2 ∷ []) "a" ∷ [])
    ∷ gate "t" [] ("a" ∷ []) (turn "u1" (over pi 4 ∷ []) "a" ∷ [])
    ∷ gate "tdg" [] ("a" ∷ []) (turn "u1" (over (minus pi) 4 ∷ []) "a" ∷ [])
    ∷ gate "rx" ("t" ∷ []) ("a" ∷ []) (turn "u3" (by "t" ∷ over (minus pi) 2 ∷ over pi 2 ∷ []) "a" ∷ [])
    ∷ gate "ry" ("t" ∷ []) ("a" ∷ []) (turn "u3" (by "t" ∷ nought ∷ nought ∷ []) "a" ∷ [])
    ∷ gate "rz" ("p" ∷ []) ("a" ∷ []) (turn "u1" (by "p" ∷ []) "a" ∷ [])
    ∷ gate "cz" [] ("a" ∷ "b" ∷ []) (to "h" "b" ∷ to_two "cx" "a" "b" ∷ to "h" "b" ∷ [])
    ∷ gate "cy" [] ("a" ∷ "b" ∷ []) (to "sdg" "b" ∷ to_two "cx" "a" "b" ∷ to "s" "b" ∷ [])
    ∷ gate "ch" [] ("a" ∷ "b" ∷ []) (
    to "h" "b" ∷ to "sdg" "b" ∷ to_two "cx" "a" "b" ∷ to "h" "b" ∷ to "t" "b" ∷ to_two "cx" "a" "b" ∷ to "t" "b"
    ∷ to "h" "b" ∷ to "s" "b" ∷ to "x" "b" ∷ to "s" "a" ∷ []
    )
    ∷ gate "ccx" [] ("a" ∷ "b" ∷ "c" ∷ []) (
    to "h" "c" ∷ to_two "cx" "b" "c" ∷ to "tdg" "c" ∷ to_two "cx" "a" "c" ∷ to "t" "c" ∷ to_two "cx" "b" "c" ∷ to "tdg" "c"
    ∷ to_two "cx" "a" "c" ∷ to "t" "b" ∷ to "t" "c" ∷ to "h" "c" ∷ to_two "cx" "a" "b" ∷ to "t" "a" ∷ to "tdg" "b"
    ∷ to_two "cx" "a" "b" ∷ []
    )
    ∷ gate "crz" ("l" ∷ []) ("a" ∷ "b" ∷ []) (
    turn "u1" (over (by "l") 2 ∷ []) "b" ∷ to_two "cx" "a" "b" ∷ turn "u1" (over (minus (by "l")) 2 ∷ []) "b"
    ∷ to_two "cx" "a" "b" ∷ []
    )
    ∷ gate "cu1" ("l" ∷ []) ("a" ∷ "b" ∷ []) (
    turn "u1" (over (by "l") 2 ∷ []) "a" ∷ to_two "cx" "a" "b" ∷ turn "u1" (over (minus (by "l")) 2 ∷ []) "b"
    ∷ to_two "cx" "a" "b" ∷ turn "u1" (over (by "l") 2 ∷ []) "b" ∷ []
    )
    ∷ []

-- ---- what is written besides
unfoldable pub added : List Entry
added =
    gate "u" ("t" ∷ "p" ∷ "l" ∷ []) ("q" ∷ []) (turn "U" (by "t" ∷ by "p" ∷ by "l" ∷ []) "q" ∷ [])
    ∷ gate "p" ("l" ∷ []) ("q" ∷ []) (turn "U" (nought ∷ nought ∷ by "l" ∷ []) "q" ∷ [])
    ∷ gate "cp" ("l" ∷ []) ("a" ∷ "b" ∷ []) (
    turn "u1" (over (by "l") 2 ∷ []) "a" ∷ to_two "cx" "a" "b" ∷ turn "u1" (over (minus (by "l")) 2 ∷ []) "b"
    ∷ to_two "cx" "a" "b" ∷ turn "u1" (over (by "l") 2 ∷ []) "b" ∷ []
    )
    ∷ gate "swap" [] ("a" ∷ "b" ∷ []) (to_two "cx" "a" "b" ∷ to_two "cx" "b" "a" ∷ to_two "cx" "a" "b" ∷ [])
    ∷ gate "cswap" [] ("a" ∷ "b" ∷ "c" ∷ []) (to_two "cx" "c" "b" ∷ to_three "ccx" "a" "b" "c" ∷ to_two "cx" "c" "b" ∷ [])
    ∷ gate "sx" [] ("a" ∷ []) (to "sdg" "a" ∷ to "h" "a" ∷ to "sdg" "a" ∷ [])
    ∷ gate "sxdg" [] ("a" ∷ []) (to "s" "a" ∷ to "h" "a" ∷ to "s" "a" ∷ [])
    ∷ []
