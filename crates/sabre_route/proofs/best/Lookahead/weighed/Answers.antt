use Rattle.std.proofs.Common.{◌≡◌, ◌∙◌, ◌≤◌, ◌*◌, ◌+◌, length, max, arith}
use Rattle.unitary_model.specs.Limits.{most_qubits}
use Rattle.sabre_route.specs.Search.{most_extended}
use Rattle.sabre_route.specs.Scores.{most_distance}
use Rattle.sabre_route.proofs.ScoreLaws.{product-le}
use Rattle.sabre_route.proofs.best.Lookahead.weighed.Goals as goal

pub overflow_mul-result-2 : goal.overflow_mul-result-2
overflow_mul-result-2 c =
    let weight : 2 * c.max.result ≤ 2 * most_extended = omega (arith, c.max.ensures, c.self.invariant.extended_limit) in
    omega (arith, product-le (2 * c.max.result) c.args.of_front (2 * most_extended) (most_qubits * most_distance) weight c.requires.front)

pub overflow_add-result : goal.overflow_add-result
overflow_add-result c =
    let k = c.self.invariant in
    let weight : 2 * c.max.result ≤ 2 * most_extended = omega (arith, c.max.ensures, k.extended_limit) in
    omega (
      arith,
      product-le (2 * c.max.result) c.args.of_front (2 * most_extended) (most_qubits * most_distance) weight c.requires.front,
      product-le (length c.self.inside.front.now) c.args.of_extended most_qubits (most_extended * most_distance) k.front_limit c.requires.extended,
    )

pub returns-clause-score : goal.returns-clause-score
returns-clause-score c =
    let m : c.max.result ≡ max 1 (length c.self.inside.extended.now) = omega (arith, c.max.ensures) in
    (λ z. 2 * m z * c.args.of_front + length c.self.inside.front.now * c.args.of_extended)
    ∙ (λ z. 2 * max 1 (length (c.self.view_is z).extended) * c.args.of_front + length (c.self.view_is z).front * c.args.of_extended)

pub returns-clause-short : goal.returns-clause-short
returns-clause-short c =
    let k = c.self.invariant in
    let m : c.max.result ≡ max 1 (length c.self.inside.extended.now) = omega (arith, c.max.ensures) in
    let weight : 2 * c.max.result ≤ 2 * most_extended = omega (arith, c.max.ensures, k.extended_limit) in
    omega (
      arith,
      product-le (2 * c.max.result) c.args.of_front (2 * most_extended) (most_qubits * most_distance) weight c.requires.front,
      product-le (length c.self.inside.front.now) c.args.of_extended most_qubits (most_extended * most_distance) k.front_limit c.requires.extended,
    )
