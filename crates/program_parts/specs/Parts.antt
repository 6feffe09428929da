-- Parts of a program, each realised from where the last one ended.
--   Part                 the operations of a part of the source, those that are written for it, where its wires then stand, the power
--                        of w, and the swaps
--   sources, targets     the operations of all parts, one after the other
--   powers               the sum of the powers
--   ends first parts     where the wires stand at the end
--   AreRealised n size first parts   each part is realised on `size` wires, the first from the placement `first` on
use Rattle.std.specs.Prelude.{ℕ, ◌+◌, List, [], ◌∷◌, ◌++◌}
use Rattle.unitary_model.specs.declared.Op.{Op}
use Rattle.unitary_model.specs.Realises.{Realises}

pub record Part : Type 0 where
  pub source : List Op
  pub target : List Op
  pub last : List ℕ
  pub power : ℕ
  pub swaps : ℕ

abbrev pub sources : List Part → List Op
sources [] = []
sources (p ∷ parts) = p.source ++ sources parts

abbrev pub targets : List Part → List Op
targets [] = []
targets (p ∷ parts) = p.target ++ targets parts

abbrev pub powers : List Part → ℕ
powers [] = 0
powers (p ∷ parts) = p.power + powers parts

abbrev pub ends : List ℕ → List Part → List ℕ
ends first [] = first
ends first (p ∷ parts) = ends p.last parts

abbrev pub AreRealised : ℕ → ℕ → List ℕ → List Part → Type 0
AreRealised n size first [] = Unit {0}
AreRealised n size first (p ∷ parts) = Realises p.source n p.target size first p.last p.power × AreRealised n size p.last parts
