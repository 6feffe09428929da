-- What the CNOTs of a program cost on a device.
--   op_cost d u      what the pair of a CNOT costs; an operation on one qubit costs nothing
--   cx_cost d us     the sum over a list of operations
--   told_by o k      this number where costs are listed, and else nothing
--   told_cost d us   what a report tells of costs: the sum, where the device lists costs
use Rattle.std.specs.Prelude.{ℕ, ◌+◌, List, ◌∷◌, Option, None, Some, []}
use Rattle.coupling_map.specs.Coupling.{Coupling, cost}
use Rattle.unitary_model.specs.declared.Op.{Op}
use Rattle.unitary_model.specs.declared.Op.TheVariants.{U, Cx}

abbrev pub op_cost : Coupling → Op → ℕ
op_cost d (U a b c q) = 0
op_cost d (Cx c t) = cost d c t

abbrev pub cx_cost : Coupling → List Op → ℕ
cx_cost d [] = 0
cx_cost d (u ∷ us) = op_cost d u + cx_cost d us

abbrev pub told_by : Option (List ℕ) → ℕ → Option ℕ
told_by None k = None
told_by (Some cs) k = Some k

abbrev pub told_cost : Coupling → List Op → Option ℕ
told_cost d us = told_by d.costs (cx_cost d us)
