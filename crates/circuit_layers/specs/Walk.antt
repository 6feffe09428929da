-- The layers of a circuit by a walk, turn by turn. A turn begins with every wire free and goes along the gates that are left: what
-- is no H and finds its wires free belongs to the layer, and what doesn't stops its wires for the rest of the turn. The H in front of
-- which nothing is left on their wires end the layer. So it goes on until no gate is left.
--   Wires                a set of wires
--   free                 no wire is in it
--   with_wires ws g      the wires ws and those of gate g
--   is_stopped ws g      gate g is an H or has a wire that is blocked, where the wires ws are
--   taken ws gs          the gates other than H that are taken, in order, where the wires ws are blocked before
--   left ws gs           the gates that aren't taken with them
--   is_first ws g        gate g is an H, and no gate before is on its wire, where those before are on the wires ws
--   first_wires ws gs    the wires of the H that are first on their wires
--   later ws gs          the gates but these H
--   ascending qs         the wires, ascending
--   layer gs             the layer that a turn takes from the gates
--   rest gs              what the turn leaves of them
--   turns k gs           the layers of k turns, or of fewer if no gate is left before
--   rest_after k gs      what k turns leave
--   walk_layers gs       the layers of as many turns as there are gates
use Rattle.std.specs.Prelude.{ℕ, zero, suc, ◌||◌, Bool, true, false, cond, not, List, [], ◌∷◌, length}
use Rattle.circuit_list.specs.declared.Gate.{Gate}
use Rattle.circuit_list.specs.declared.Gate.TheVariants.{H, X, P, Cx}
use Rattle.circuit_list.specs.Gates.{first_wire, is_on}
use Rattle.circuit_layers.specs.Layers.{LayerBody, inserted}

abbrev pub Wires : Type 0
Wires = ℕ → Bool

abbrev pub free : Wires
free w = false

abbrev pub with_wires : Wires → Gate → Wires
with_wires ws g = λ w. is_on w g || ws w

abbrev pub is_stopped : Wires → Gate → Bool
is_stopped ws (H q) = true
is_stopped ws (X q) = ws q
is_stopped ws (P k q) = ws q
is_stopped ws (Cx c t) = ws c || ws t

abbrev pub taken : Wires → List Gate → List Gate
taken ws [] = []
taken ws (g ∷ gs) = cond (is_stopped ws g) (taken (with_wires ws g) gs) (g ∷ taken ws gs)

abbrev pub left : Wires → List Gate → List Gate
left ws [] = []
left ws (g ∷ gs) = cond (is_stopped ws g) (g ∷ left (with_wires ws g) gs) (left ws gs)

abbrev pub is_first : Wires → Gate → Bool
is_first ws (H q) = not (ws q)
is_first ws (X q) = false
is_first ws (P k q) = false
is_first ws (Cx c t) = false

abbrev pub first_wires : Wires → List Gate → List ℕ
first_wires ws [] = []
first_wires ws (g ∷ gs) = cond (is_first ws g) (first_wire g ∷ first_wires (with_wires ws g) gs) (first_wires (with_wires ws g) gs)

abbrev pub later : Wires → List Gate → List Gate
later ws [] = []
later ws (g ∷ gs) = cond (is_first ws g) (later (with_wires ws g) gs) (g ∷ later (with_wires ws g) gs)

abbrev pub ascending : List ℕ → List ℕ
ascending [] = []
ascending (q ∷ qs) = inserted q (ascending qs)

abbrev pub layer : List Gate → LayerBody
layer gs = record { gates = taken free gs; hadamards = ascending (first_wires free (left free gs)) }

abbrev pub rest : List Gate → List Gate
rest gs = later free (left free gs)

abbrev pub turns : ℕ → List Gate → List LayerBody
turns k [] = []
turns zero (g ∷ gs) = []
turns (suc k) (g ∷ gs) = layer (g ∷ gs) ∷ turns k (rest (g ∷ gs))

abbrev pub rest_after : ℕ → List Gate → List Gate
rest_after zero gs = gs
rest_after (suc k) gs = rest_after k (rest gs)

abbrev pub walk_layers : List Gate → List LayerBody
walk_layers gs = turns (length gs) gs
