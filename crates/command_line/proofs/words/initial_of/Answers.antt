use Rattle.std.proofs.Common.{rules}
use Rattle.clap.proofs.WalkLemmas.{first_value-rows}
use Rattle.command_line.proofs.words.initial_of.Goals as goal

pub returns-in-None-clause-value : goal.returns-in-None-clause-value
returns-in-None-clause-value c = search (first_value-rows, rules)

pub returns-in_ok-qubits-in-Some-clause-value : goal.returns-in_ok-qubits-in-Some-clause-value
returns-in_ok-qubits-in-Some-clause-value c = search (first_value-rows, rules)
