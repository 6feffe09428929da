-- What is written and reported for a program with spare wires behind its own, which start and end at zero.
--   HasSparedLayers S n m us      the operations us are the layers of a settled circuit on n wires that has the unitary of S up to a power of w:
--                                 each layer as it is, or written anew on m spare wires too where they lower its least number of blocks
--   StandsWithSpares source target m told   where the m spares start at zero the target is the source, up to the reported power of w, and they
--                                 end at zero; layer by layer it is as above
--   ToldWithSpares target m told  the report tells of the spares, and that no wire moves
use Rattle.std.specs.Prelude.{◌≡◌, ℕ, ◌+◌, ◌≤◌, List, None, Some, All, map, option_map, slice_index, []}
use Rattle.circuit_list.specs.declared.Gate.{Gate}
use Rattle.circuit_list.specs.Gates.{IsFine, ops}
use Rattle.gate_inline.specs.Programs.{Program}
use Rattle.route_report.specs.declared.lines.Report.{Report}
use Rattle.routed_parts.specs.Settled.{IsSettled}
use Rattle.spare_layers.specs.Spared.{IsSpared}
use Rattle.spare_layers.specs.SparedLayers.{IsSparedCircuit}
use Rattle.unitary_model.specs.declared.Op.{Op}
use Rattle.unitary_model.specs.OddPaths.{odd_paths}
use Rattle.unitary_model.specs.Operations.{IsPlain, t_count}
use Rattle.unitary_model.specs.Placement.{identity}
use Rattle.unitary_model.specs.Realises.{Realises}

pub record HasSparedLayers (S : List Op) (n m : ℕ) (us : List Op) : Type 0 where
  -- the settled circuit, and its turn against S
  pub settled : List Gate
  pub turn : ℕ
  pub fine : All (IsFine n) settled
  pub is_settled : IsSettled n (ops settled)
  pub stands : Realises S n (ops settled) n (identity n) (identity n) turn
  -- what became of its layers, and the turn of that
  pub gates : List Gate
  pub change : ℕ
  pub layers : IsSparedCircuit n m settled gates change
  pub written : us ≡ ops gates

pub record StandsWithSpares (source target : Program) (m : ℕ) (told : Report) : Type 0 where
  -- it has the same classical registers and plain operations, on the spares too, and no barrier
  pub registers : target.registers ≡ source.registers
  pub plain : All IsPlain target.ops
  pub wires : target.wires ≡ source.wires + m
  pub bars : target.cut.bars ≡ []
  -- where the spares start at zero, it is the source, up to the reported power of w, and they end at zero
  pub entries : IsSpared source.ops source.wires target.ops m told.phase
  -- each bit reads its wire of the source
  pub reads : target.reads ≡ map (option_map (slice_index told.last)) source.reads
  -- it has no more T gates than the source has odd path parities
  pub t_gates : t_count target.ops ≤ odd_paths source.wires source.ops
  -- and its layers are those of a settled circuit, each as it was, or written anew in as few blocks as the spares allow
  pub layers : HasSparedLayers source.ops source.wires m target.ops

pub record ToldWithSpares (target : Program) (m : ℕ) (told : Report) : Type 0 where
  pub initial : told.initial ≡ identity target.wires
  pub last : told.last ≡ identity target.wires
  pub swaps : told.swaps ≡ 0
  pub cost : told.cost ≡ None
  pub parts : told.parts ≡ None
  pub spares : told.spares ≡ Some m
