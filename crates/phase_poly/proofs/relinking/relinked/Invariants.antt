use Rattle.std.proofs.Common.{◌<◌, take}
use Rattle.phase_poly.specs.Replaced.{IsRelinked}
use Rattle.phase_poly.proofs.relinking.relinked.Given as goal

abbrev pub invariant-steps : goal.invariant-steps
invariant-steps l = record {
  below : l.turn < 8;
  relinked : IsRelinked l.wires (take l.layer-index l.layers) l.list.items l.turn;
}
