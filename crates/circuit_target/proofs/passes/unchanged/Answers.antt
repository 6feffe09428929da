-- One gate has no partner, no window, and is one odd path if it is a T gate.
use Rattle.std.proofs.Common.{refl}
use Rattle.circuit_target.proofs.TargetLaws.{IsRewriting-same, IsSettled-few}
use Rattle.circuit_target.proofs.passes.unchanged.Goals as goal

pub returns : goal.returns
returns c = record {
  wires = refl;
  law = IsRewriting-same c.args.body.wires c.args.body.gates;
  settled = IsSettled-few c.args.body.wires c.args.body.gates c.requires.few;
  silent = refl;
  steps = tt;
}
