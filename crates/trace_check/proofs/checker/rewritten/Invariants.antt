use Rattle.std.proofs.Common.{◌≡◌, ℕ, ◌+◌, ◌<◌, ◌≤◌, ◌^◌, List, None, length}
use Rattle.trace_text.specs.Texts.{lines_of}
use Rattle.rewrite_steps.specs.Known.{AreSpansIn}
use Rattle.trace_check.specs.Progress.{Came, IsHeldFit, reached}
use Rattle.trace_model.specs.Proves.{Claim}
use Rattle.trace_check.proofs.checker.rewritten.Given as goal

abbrev pub invariant-lines : goal.invariant-lines
invariant-lines l = record {
  wires : l.state.body.wires ≡ l.fn.state.body.wires;
  turn : l.state.turn < 8;
  short : l.mark.line + length l.mark.text.now < 2 ^ 32;
  later : l.fn.start.line ≤ l.mark.line;
  held : IsHeldFit l.state.body.wires l.held;
  known : AreSpansIn l.known l.state.body;
  came : (e : Claim) (trace : List ℕ) (n : ℕ) → e.wires ≡ l.fn.state.body.wires → Came e l.fn.edition trace (reached None l.fn.state) (lines_of l.fn.start.text.now) n → l.fn.start.line ≡ n + 1 →
      (m : ℕ) × (Came e l.fn.edition trace (reached l.held l.state) (lines_of l.mark.text.now) m × (l.mark.line ≡ m + 1));
}

abbrev pub decreases-lines : goal.decreases-lines
decreases-lines l = length l.mark.text.now
