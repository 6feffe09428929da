use Rattle.std.proofs.Common.{◌<◌, take}
use Rattle.spare_layers.specs.SparedLayers.{IsSparedList}
use Rattle.spare_layers.proofs.pass.relinked.Given as goal

abbrev pub invariant-steps : goal.invariant-steps
invariant-steps l = record {
  below : l.turn < 8;
  layers : IsSparedList l.wires l.spares (take l.layer-index l.layers) l.list.items l.turn;
}
