use Rattle.std.proofs.Common.{◌≡◌, ◌+◌, ◌≤◌, ◌++◌, length, map}
use Rattle.rewrite_pass.specs.TraceLines.{gate_line}
use Rattle.trace_text.specs.Texts.{lines_of}
use Rattle.trace_check.proofs.gates.read_gates.Given as goal

abbrev pub invariant-lines : goal.invariant-lines
invariant-lines l = record {
  wires : l.body.wires ≡ l.wires;
  long : length l.body.gates ≡ l._number;
  read : lines_of l.fn.text ≡ map gate_line l.body.gates ++ lines_of l.behind;
  shorter : l._number + length l.behind ≤ length l.fn.text;
}
