use Rattle.std.proofs.Common.{◌∙◌, ◌<◌, max, slice_index_or, subst, sym}
use Rattle.std.proofs.lemmas.Nat.Bits.{bit_at_or}
use Rattle.sabre_route.specs.Scores.{Judged, has_end}
use Rattle.sabre_route.proofs.NearerLaws.{extended-short}
use Rattle.sabre_route.proofs.SwapLaws.{either-bit}
use Rattle.sabre_route.proofs.best.Lookahead.extended_after.Goals as goal

pub swapped_sum-requires-clause-touched : goal.swapped_sum-requires-clause-touched
swapped_sum-requires-clause-touched c i =
    let k = c.self.invariant in
    let on = c.self.inside.on in
    let first : c.args.a < c.self.inside.device.now.size = subst (λ (v : Judged). c.args.a < v.device.size) (sym c.self.view_is) c.requires.first in
    let second : c.args.b < c.self.inside.device.now.size = subst (λ (v : Judged). c.args.b < v.device.size) (sym c.self.view_is) c.requires.second in
    bit_at_or (slice_index_or on c.args.a 0) (slice_index_or on c.args.b 0) i ∙ (λ z. max (k.told c.args.a i first z) (k.told c.args.b i second z))
    ∙ either-bit (has_end c.self.inside.extended.now i c.args.a) (has_end c.self.inside.extended.now i c.args.b)

pub returns-clause-short : goal.returns-clause-short
returns-clause-short c =
    extended-short c.self.inside.device.now c.self.inside.extended.now c.swapped_sum.result c.self.invariant.metric c.self.invariant.extended_limit c.swapped_sum.ensures.short
