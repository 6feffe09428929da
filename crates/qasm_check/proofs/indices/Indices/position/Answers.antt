use Rattle.std.proofs.Common.{◌<◌, ℕ, List, ap, ◌∙◌, length, arith}
use Rattle.std.specs.List.{position}
use Rattle.std.specs.Str.{bytes_eq}
use Rattle.qasm_check.proofs.indices.Indices.position.Goals as goal

pub returns-else-self-le-FEW : goal.returns-else-self-le-FEW
returns-else-self-le-FEW c =
    let name = c.args.name.now in
    let many : 8 < length c.self.inside.names.now = omega arith in
    c.copied.ensures ∙ c.get.ensures.value ∙ c.self.invariant many name ∙ ap (λ (ns : List (List ℕ)). position (λ y. bytes_eq name y) ns) c.self.view_is
