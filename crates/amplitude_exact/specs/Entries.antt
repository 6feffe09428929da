-- An entry of the matrix of some operations, with a power of 2.
--     IsEntry us x y v e      the entry from the bits x to the bits y is v divided by 2^e
--     IsExact us x y v e      .. and no smaller power does
--     branches us             the operations U with a first angle other than 0 and 4, which neither keep nor exchange 0 and 1
--     most_entry_wires, most_branches       the most wires and the most branches of operations whose entries are told
use Rattle.std.specs.Prelude.{◌≡◌, ℕ, suc, ◌<◌, ◌==◌, ◌||◌, Bool, List, [], ◌∷◌, if◌then◌else◌}
use Rattle.unitary_model.specs.declared.Op.{Op}
use Rattle.unitary_model.specs.declared.Op.TheVariants.{U, Cx}
use Rattle.unitary_model.specs.Ring.{Ring, double}
use Rattle.unitary_model.specs.Operations.{weight}
use Rattle.unitary_model.specs.Amplitude.{amplitude}

-- the amplitude is the entry times 2^weight
abbrev pub IsEntry : List Op → List Bool → List Bool → Ring → ℕ → Type 0
IsEntry us x y v e = double e (amplitude us x y) ≡ double (weight us) v

pub record IsExact (us : List Op) (x y : List Bool) (v : Ring) (e : ℕ) : Type 0 where
  pub entry : IsEntry us x y v e
  pub least : (f : ℕ) (u : Ring) → f < e → IsEntry us x y u f → ⊥

abbrev pub branches : List Op → ℕ
branches [] = 0
branches (Cx c t ∷ us) = branches us
branches (U a b c q ∷ us) = if a == 0 || a == 4 then branches us else suc (branches us)

abbrev pub most_entry_wires : ℕ
most_entry_wires = 12

abbrev pub most_branches : ℕ
most_branches = 60
