use Rattle.std.proofs.Common.{◌≡◌, [], ◌∷◌, ◌++◌, ap, sym, ◌∙◌, arith, take}
use Rattle.std.proofs.lemmas.Grind.{common_steps}
use Rattle.std.proofs.lemmas.List.{map-append}
use Rattle.circuit_list.specs.Gates.{op_of, ops}
use Rattle.test_circuits.proofs.SampleLaws.{take-next}
use Rattle.test_circuits.proofs.comparison.operations.Goals as goal

pub places-preserved : goal.places-preserved
places-preserved c =
    let gates = c.args.body.now.gates in
    let pushed : c.push.new.self.items ≡ c.places.ops.items ++ c.operation.result ∷ [] = grind (arith, common_steps) in
    pushed ∙ ap (λ us. us ++ c.operation.result ∷ []) c.places.invariant ∙ ap (λ u. ops (take c.places.i gates) ++ u ∷ []) c.operation.ensures
    ∙ sym (map-append op_of (take c.places.i gates) (c.gate.result ∷ [])) ∙ ap ops (sym (take-next gates c.places.i c.gate.result c.gate.ensures.there))
