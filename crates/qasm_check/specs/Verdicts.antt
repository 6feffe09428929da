-- Working form. The refusal of a statement as a function.
--   either       a refusal whose test is met, else what the later ones give
--   verdict      the refusal of the least code that applies to a statement
--   IsStop       why the check of a statement stops, where this is its refusal
--   check_fault  what is told then
use Rattle.std.specs.Prelude.{◌≡◌, ℕ, Option, Some, None, Bool, if◌then◌else◌}
use Rattle.qasm_parser.specs.Tree.{Statement}
use Rattle.qasm_check.specs.Known.{Known}
use Rattle.qasm_check.specs.Refusals.{include, name_taken, unknown_name, wrong_kind, index_range, empty_register, param_count, qubit_count, size_differs, repeated_qubit, conditional, reset, opaque_applied, after_measure, too_many_qubits, too_many_bits}
use Rattle.qasm_check.specs.declared.refusal.CheckRefusal.{CheckRefusal}
use Rattle.qasm_check.specs.declared.refusal.CheckRefusal.TheVariants.{Include, NameTaken, UnknownName, WrongKind, IndexRange, EmptyRegister, ParamCount, QubitCount, SizeDiffers, RepeatedQubit, Conditional, Reset, OpaqueApplied, AfterMeasure, TooManyQubits, TooManyBits}
use Rattle.qasm_check.specs.declared.refusal.CheckFault.{CheckFault}
use Rattle.qasm_check.specs.declared.refusal.CheckFault.TheVariants.{Refused as Refuses, NoMemory as OutOfMemory}
use Rattle.qasm_check.specs.declared.stop.CheckStop.{CheckStop}
use Rattle.qasm_check.specs.declared.stop.CheckStop.TheVariants.{NoMemory, Refused}

abbrev pub either : Bool → CheckRefusal → Option CheckRefusal → Option CheckRefusal
either test r others = if test then Some r else others

abbrev pub verdict : Known → Statement → Option CheckRefusal
verdict k s =
    either (include k s) Include (either (name_taken k s) NameTaken (either (unknown_name k s) UnknownName
    (either (wrong_kind k s) WrongKind (either (index_range k s) IndexRange (either (empty_register k s) EmptyRegister
    (either (param_count k s) ParamCount (either (qubit_count k s) QubitCount (either (size_differs k s) SizeDiffers
    (either (repeated_qubit k s) RepeatedQubit (either (conditional k s) Conditional (either (reset k s) Reset
    (either (opaque_applied k s) OpaqueApplied (either (after_measure k s) AfterMeasure
    (either (too_many_qubits k s) TooManyQubits (either (too_many_bits k s) TooManyBits None)))))))))))))))

abbrev pub IsStop : Option CheckRefusal → CheckStop → Type 0
IsStop o NoMemory = Unit {0}
IsStop o (Refused r) = o ≡ Some r

abbrev pub check_fault : CheckStop → ℕ → CheckFault
check_fault NoMemory statement = OutOfMemory
check_fault (Refused r) statement = Refuses (record { refusal = r; statement = statement })
