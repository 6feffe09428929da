-- The extended set, of either kind, and the best swap.
--   cx_only gs                the CNOTs of some gates
--   Ahead                     which CNOTs a swap is judged by besides the front layer: InOrder, the first 20 others (most_extended); Along,
--                             the first 20 that are met along dependences from the front layer on, also among gates that follow
--   IsExtended ahead gs es    es is the extended set
--   Outlook                   the number of wires of a lookout, and the CNOTs that are left in it
--   IsLookoutOver ahead o n gs       lookout o, if the set is that along dependences, is over the gates gs and those that follow, on n wires at most
--   IsBestSwap ahead d q gs a b     the candidate with the least (score, a, b)
use Rattle.std.specs.Prelude.{◌≡◌, ℕ, ◌≤◌, ◌++◌, List, Option, None, Some, filter, length}
use Rattle.circuit_list.specs.declared.Gate.{Gate}
use Rattle.circuit_list.specs.Gates.{is_cx}
use Rattle.coupling_map.specs.Coupling.{Coupling}
use Rattle.sabre_route.specs.Dependences.{IsAlong}
use Rattle.sabre_route.specs.Search.{extended, most_extended, score, IsCandidate, IsNotAbove}

abbrev pub cx_only : List Gate → List Gate
cx_only gs = filter is_cx gs

pub data Ahead : Type 0 where
  InOrder : Ahead
  Along : (following : List Gate) → Ahead

abbrev pub IsExtended : Ahead → List Gate → List (ℕ × ℕ) → Type 0
IsExtended InOrder gs es = es ≡ extended gs
IsExtended (Along following) gs es = IsAlong most_extended (cx_only (gs ++ following)) (length (cx_only gs)) es

pub record IsBestSwap (ahead : Ahead) (d : Coupling) (q : List ℕ) (gs : List Gate) (a b : ℕ) : Type 0 where
  pub others : List (ℕ × ℕ)
  pub extended_set : IsExtended ahead gs others
  pub candidate : IsCandidate d.edges q gs a b
  pub least : (x y : ℕ) → IsCandidate d.edges q gs x y → IsNotAbove (score d q gs others a b) a b (score d q gs others x y) x y

pub record Outlook : Type 0 where
  pub wires : ℕ
  pub left : List Gate

abbrev pub IsLookoutOver : Ahead → Option Outlook → ℕ → List Gate → Type 0
IsLookoutOver InOrder None n gs = Unit {0}
IsLookoutOver InOrder (Some o) n gs = ⊥
IsLookoutOver (Along following) None n gs = ⊥
IsLookoutOver (Along following) (Some o) n gs = (o.wires ≤ n) × (o.left ≡ cx_only (gs ++ following))
