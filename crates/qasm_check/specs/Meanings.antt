-- What a name stands for, where it stands for something, and what an argument names.
--   names_gate, names_register   a gate; a register
--   is_other               it stands for something, but for no register of the kind that is asked for, quantum or classical
--   is_past_end              a register, with an index that isn't below its size
--   operand_in             what an argument names; nothing where it names no register or an index is too great
use Rattle.std.specs.Prelude.{ℕ, Option, Some, None, Bool, true, false, not, if◌then◌else◌, nat_le, nat_lt}
use Rattle.gate_library.specs.declared.operand.Operand.{Operand}
use Rattle.qasm_check.specs.declared.meaning.Meaning.{Meaning}
use Rattle.qasm_check.specs.declared.meaning.Meaning.TheVariants.{Gate, Register}

abbrev pub names_gate : Option Meaning → Bool
names_gate (Some (Gate i)) = true
names_gate (Some (Register r)) = false
names_gate None = false

abbrev pub names_register : Option Meaning → Bool
names_register (Some (Register r)) = true
names_register (Some (Gate i)) = false
names_register None = false

abbrev pub is_other : Bool → Option Meaning → Bool
is_other quantum (Some (Register r)) = if quantum then not r.quantum else r.quantum
is_other quantum (Some (Gate i)) = true
is_other quantum None = false

abbrev pub is_past_end : Option Meaning → Option ℕ → Bool
is_past_end (Some (Register r)) (Some i) = nat_le r.size i
is_past_end (Some (Register r)) None = false
is_past_end (Some (Gate n)) index = false
is_past_end None index = false

abbrev pub operand_in : Option Meaning → Option ℕ → Option Operand
operand_in (Some (Register r)) None = Some (record { first = r.first; size = r.size; index = None })
operand_in (Some (Register r)) (Some i) =
    if nat_lt i r.size then Some (record { first = r.first; size = r.size; index = Some i }) else None
operand_in (Some (Gate n)) index = None
operand_in None index = None
