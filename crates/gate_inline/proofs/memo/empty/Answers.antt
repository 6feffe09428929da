-- One more place without a call.
use Rattle.std.proofs.Common.{List, Option, None, sym, subst}
use Rattle.std.proofs.lemmas.List.Elements.{All-push}
use Rattle.gate_inline.specs.Remembered.{AreKept, IsKeptPlace}
use Rattle.gate_inline.specs.declared.memo.Kept.{Kept}
use Rattle.gate_inline.proofs.memo.empty.Goals as goal

pub places-preserved : goal.places-preserved
places-preserved c = λ gates us.
    subst (λ (ps : List (Option Kept)). AreKept gates us ps) (sym c.in_ok-push.ensures.items)
    (All-push (IsKeptPlace gates us) c.places.places.items None (c.places.invariant gates us) tt)
