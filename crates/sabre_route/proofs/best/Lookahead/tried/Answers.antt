use Rattle.std.proofs.Common.{◌≡◌, ◌<◌, ◌≤◌, ◌+◌, ◌*◌, ◌∙◌, ℕ, ap, inl, length, max, slice_index, subst, arith}
use Rattle.coupling_map.specs.Coupling.{cost}
use Rattle.unitary_model.specs.Limits.{most_qubits}
use Rattle.sabre_route.specs.Scores.{Judged, most_pair}
use Rattle.sabre_route.specs.Search.{most_extended}
use Rattle.sabre_route.proofs.LookaheadLaws.{IsLookahead-seen}
use Rattle.sabre_route.proofs.NearerLaws.{ends-few, score-above, score-ordered, score-short}
use Rattle.sabre_route.proofs.ScoreLaws.{product-le}
use Rattle.sabre_route.proofs.best.Lookahead.tried.Goals as goal

pub overflow_add-nearer : goal.overflow_add-nearer
overflow_add-nearer c =
    let o = c.args.self.now in
    let k = IsLookahead-seen _ o _ _ _ _ _ c.self.view_is c.self.invariant in
    omega (arith, k.counted c.args.a c.requires.first, k.counted c.args.b c.requires.second, ends-few o.extended c.args.a, ends-few o.extended c.args.b, k.extended_limit)

pub overflow_mul-price : goal.overflow_mul-price
overflow_mul-price c =
    let o = c.args.self.now in
    let k = IsLookahead-seen _ o _ _ _ _ _ c.self.view_is c.self.invariant in
    let ends = c.self.inside.ends in
    let nearer = slice_index ends c.args.a + slice_index ends c.args.b in
    let few : nearer ≤ 4 * most_extended =
    omega (arith, k.counted c.args.a c.requires.first, k.counted c.args.b c.requires.second, ends-few o.extended c.args.a, ends-few o.extended c.args.b, k.extended_limit) in
    let price : c.cost-price.result ≤ most_pair = omega (arith, c.cost-price.ensures.exact, (c.self.invariant.metric.costs c.args.a c.args.b).1) in
    let gain = product-le c.cost-price.result nearer most_pair (4 * most_extended) price few in
    omega (arith, gain)

pub overflow_mul-self-inside : goal.overflow_mul-self-inside
overflow_mul-self-inside c =
    let o = c.args.self.now in
    let k = IsLookahead-seen _ o _ _ _ _ _ c.self.view_is c.self.invariant in
    let ends = c.self.inside.ends in
    let nearer = slice_index ends c.args.a + slice_index ends c.args.b in
    let few : nearer ≤ 4 * most_extended =
    omega (arith, k.counted c.args.a c.requires.first, k.counted c.args.b c.requires.second, ends-few o.extended c.args.a, ends-few o.extended c.args.b, k.extended_limit) in
    let price : c.cost-price.result ≤ most_pair = omega (arith, c.cost-price.ensures.exact, (c.self.invariant.metric.costs c.args.a c.args.b).1) in
    let gain = product-le c.cost-price.result nearer most_pair (4 * most_extended) price few in
    omega (arith, product-le (length c.self.inside.front.now) (c.cost-price.result * nearer) most_qubits (most_pair * (4 * most_extended)) c.self.invariant.front_limit gain)

pub overflow_add-best : goal.overflow_add-best
overflow_add-best c =
    let o = c.args.self.now in
    let k = IsLookahead-seen _ o _ _ _ _ _ c.self.view_is c.self.invariant in
    let ends = c.self.inside.ends in
    let nearer = slice_index ends c.args.a + slice_index ends c.args.b in
    let few : nearer ≤ 4 * most_extended =
    omega (arith, k.counted c.args.a c.requires.first, k.counted c.args.b c.requires.second, ends-few o.extended c.args.a, ends-few o.extended c.args.b, k.extended_limit) in
    let price : c.cost-price.result ≤ most_pair = omega (arith, c.cost-price.ensures.exact, (c.self.invariant.metric.costs c.args.a c.args.b).1) in
    let gain = product-le c.cost-price.result nearer most_pair (4 * most_extended) price few in
    let best = c.args.best in
    let below = k.metric.near best.a best.b c.requires.best.pair.near in
    omega (
      arith,
      product-le (length c.self.inside.front.now) (c.cost-price.result * nearer) most_qubits (most_pair * (4 * most_extended)) c.self.invariant.front_limit gain,
      c.requires.best.score,
      score-short o.device o.front o.extended best.a best.b k.metric below.0 below.1 k.front_within k.extended_within k.front_limit k.extended_limit,
    )

pub returns-then-weighed-best-clause-tried : goal.returns-then-weighed-best-clause-tried
returns-then-weighed-best-clause-tried c =
    let o = c.args.self.now in
    let k = IsLookahead-seen _ o _ _ _ _ _ c.self.view_is c.self.invariant in
    let d = o.device in
    let fs = o.front in
    let es = o.extended in
    let a = c.args.a in
    let b = c.args.b in
    let price : c.cost-price.result ≡ cost d a b = c.cost-price.ensures.exact ∙ ap (λ (v : Judged). cost v.device a b) c.self.view_is in
    let sums = c.weighed.ensures.score ∙ (λ z. 2 * max 1 (length es) * c.front_after-of_front.ensures.total z + length fs * k.extended_sums z) in
    let above = subst (λ (n : ℕ). c.args.best.score + n < c.weighed.result)
    (λ z. length (c.self.view_is z).front * (price z * (k.counted a c.requires.first z + k.counted b c.requires.second z))) c.if-weighed-best.true in
    inl (omega (arith, score-ordered d fs es a b, score-above d fs es a b c.args.best.score c.weighed.result k.metric c.requires.first c.requires.second k.extended_within c.requires.near sums above))
