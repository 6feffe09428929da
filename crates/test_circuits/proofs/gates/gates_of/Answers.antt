use Rattle.std.proofs.Common.{◌≡◌, [], ◌∷◌, ◌++◌, ap, sym, ◌∙◌, arith}
use Rattle.std.proofs.lemmas.Grind.{common_steps}
use Rattle.test_circuits.proofs.SampleLaws.{take-next}
use Rattle.test_circuits.proofs.gates.gates_of.Goals as goal

pub places-preserved : goal.places-preserved
places-preserved c =
    let pushed : c.push.new.self.items ≡ c.places.gates.items ++ c.gate.result ∷ [] = grind (arith, common_steps) in
    pushed ∙ ap (λ gs. gs ++ c.gate.result ∷ []) c.places.invariant ∙ sym (take-next c.args.body.now.gates c.places.i c.gate.result c.gate.ensures.there)
