use Rattle.std.proofs.Common.{◌∙◌, arith, refl, sym}
use Rattle.qasm_parser.proofs.LoopLaws.{names-on}
use Rattle.qasm_parser.proofs.ListLaws.{names-step}
use Rattle.qasm_parser.proofs.lists.names.Goals as goal

pub names-preserved : goal.names-preserved
names-preserved c = record {
  same = rw c.in_ok-push-2.ensures.items
      (names-step c.names.list.items c.names.cursor _ _ _ (c.names-test.ensures.taken refl) c.in_ok-name-2.ensures.ok) ∙ c.names.invariant.same;
  walked = names-on c.names.cursor _ _ (sym c.names-test.ensures.test) (c.names-test.ensures.advanced refl) c.in_ok-name-2.ensures.walked ∙ c.names.invariant.walked;
  shorter =
      let h = c.names-test.ensures.shorter refl in
      let k = c.in_ok-name-2.ensures.rest in
      let i = c.names.invariant.shorter in
      omega arith;
}
