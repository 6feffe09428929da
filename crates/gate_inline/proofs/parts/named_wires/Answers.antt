-- All operands.
use Rattle.std.proofs.Common.{◌≡◌, [], ap, ◌∙◌, refl, take, arith}
use Rattle.std.specs.Prelude.{fold}
use Rattle.std.specs.List.{flat_map}
use Rattle.std.proofs.lemmas.Grind.{common_steps}
use Rattle.gate_library.specs.Operands.{wires_of}
use Rattle.gate_inline.specs.Parting.{with_wire}
use Rattle.gate_inline.proofs.BarLaws.{noted-once}
use Rattle.gate_inline.proofs.parts.named_wires.Goals as goal

pub returns-clause-list : goal.returns-clause-list
returns-clause-list c =
    let all : take c.operands.operand-index c.args.operands.now ≡ c.args.operands.now = grind (arith, common_steps) in
    c.operands.invariant.list ∙ ap (λ ps. fold with_wire [] (flat_map wires_of ps)) all ∙ noted-once [] [] (flat_map wires_of c.args.operands.now) (λ x. refl)
