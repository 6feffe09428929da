-- Each round goes whole times around the device.
use Rattle.std.proofs.Common.{◌≡◌, ◌*◌, ◌%◌, ◌⊎◌, ℕ, arith, inl, inr, refl, subst}
use Rattle.circuit_target.proofs.TryingLaws.{IsRound-centres}
use Rattle.circuit_target.proofs.tries.round_of.Goals as goal

twice_even : (a : ℕ) → (2 * a) % 2 ≡ 0
twice_even a = omega arith

pub returns-then-centres-eq0 : goal.returns-then-centres-eq0
returns-then-centres-eq0 c =
    let r = c.centres_of-centres.result in
    let graph = c.facts.ensures.coupling.graph in
    let around = subst (λ n. (7 * r ≡ n) ⊎ (r ≡ n)) c.size.ensures.size c.centres_of-centres.ensures in
    IsRound-centres c.args.device.now.size r r graph.positive graph.limited around (inl refl) c.if-centres-eq0.true

pub returns-else-centres-eq0 : goal.returns-else-centres-eq0
returns-else-centres-eq0 c =
    let r = c.centres_of-centres.result in
    let graph = c.facts.ensures.coupling.graph in
    let around = subst (λ n. (7 * r ≡ n) ⊎ (r ≡ n)) c.size.ensures.size c.centres_of-centres.ensures in
    IsRound-centres c.args.device.now.size r (2 * r) graph.positive graph.limited around (inr refl) (twice_even r)
