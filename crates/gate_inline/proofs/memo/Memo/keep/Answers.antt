-- What was kept, and one more call.
use Rattle.gate_inline.proofs.memo.Memo.keep.Goals as goal

pub returns : goal.returns
returns c = record { kept = λ gates us h k. c.put.ensures gates us (c.in_ok-make_room.ensures gates us h) k }
