use Rattle.std.proofs.Common.{◌≡◌, ◌≤◌, ◌-◌, length, drop}
use Rattle.qasm_lexer.specs.Lexed.{lexed_from}
use Rattle.qasm_lexer.proofs.step.past_space.Given as goal

abbrev pub invariant-spaces : goal.invariant-spaces
invariant-spaces l = record {
  same : lexed_from l.at (drop l.at l.text) ≡ lexed_from l.place (drop l.place l.text);
  further : l.place ≤ l.at;
  within : l.at ≤ length l.text;
}

abbrev pub decreases-spaces : goal.decreases-spaces
decreases-spaces l = length l.text - l.at
