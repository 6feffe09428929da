-- What is told of a trace.
--     claim S R               the claim that the operations R realise the operations S
--     IsOutcome e trace o     what is told of the trace is so: it proves the claim, or stops at the line
use Rattle.std.specs.Prelude.{ℕ, List}
use Rattle.gate_expand.specs.declared.source.Ops.{Ops}
use Rattle.trace_model.specs.Proves.{Claim, Proves, StopsAt}
use Rattle.trace_check.specs.declared.checker.Outcome.{Outcome}
use Rattle.trace_check.specs.declared.checker.Outcome.TheVariants as outcome

abbrev pub claim : Ops → Ops → Claim
claim s r = record { source = s.list; wires = s.wires; target = r.list; qubits = r.wires }

abbrev pub IsOutcome : Claim → List ℕ → Outcome → Type 0
IsOutcome e trace (outcome.Proved initial last phase) = Proves e trace initial.items last.items phase
IsOutcome e trace (outcome.Stopped line) = StopsAt e trace line
