use Rattle.std.proofs.Common.{◌∙◌, arith, refl, sym}
use Rattle.qasm_parser.proofs.LoopLaws.{args-on}
use Rattle.qasm_parser.proofs.ListLaws.{args-step}
use Rattle.qasm_parser.proofs.lists.arg_list.Goals as goal

pub members-preserved : goal.members-preserved
members-preserved c = record {
  same = rw c.in_ok-push-2.ensures.ok
      (args-step c.args.plain c.members.list.items c.members.cursor _ _ _ (c.members-test.ensures.taken refl) c.in_ok-arg-2.ensures.ok) ∙ c.members.invariant.same;
  walked = args-on c.args.plain c.members.cursor _ _ (sym c.members-test.ensures.test) (c.members-test.ensures.advanced refl) c.in_ok-arg-2.ensures.walked ∙ c.members.invariant.walked;
  shorter =
      let h = c.members-test.ensures.shorter refl in
      let k = c.in_ok-arg-2.ensures.rest in
      let i = c.members.invariant.shorter in
      omega arith;
}
