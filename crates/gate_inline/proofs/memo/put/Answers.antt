-- One more call.
use Rattle.std.proofs.Common.{Some}
use Rattle.std.proofs.lemmas.List.Elements.{All-set}
use Rattle.gate_inline.specs.Remembered.{IsKeptPlace}
use Rattle.gate_inline.proofs.memo.put.Goals as goal

pub returns-then-place-len : goal.returns-then-place-len
returns-then-place-len c = λ gates us h k. All-set (IsKeptPlace gates us) c.args.places.now.items c.place_of-place.result (Some c.args.kept) k h
