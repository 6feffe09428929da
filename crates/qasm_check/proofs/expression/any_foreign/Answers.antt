use Rattle.std.proofs.Common.{◌≡◌, false, not, ap, sym, ◌∙◌, arith}
use Rattle.std.specs.List.{list_any}
use Rattle.std.proofs.lemmas.Grind.{common_steps}
use Rattle.std.proofs.lemmas.List.Folds.{list_any_at}
use Rattle.qasm_parser.specs.Tree.{expression}
use Rattle.qasm_parser.specs.declared.tree.Expr.{Expr}
use Rattle.qasm_check.specs.Arguments.{knows}
use Rattle.qasm_check.proofs.LoopLaws.{list_any-map}
use Rattle.qasm_check.proofs.expression.any_foreign.Goals as goal

pub returns-then-not-knows : goal.returns-then-not-knows
returns-then-not-knows c = record {
  value =
      let P = c.args.params.now in
      sym (list_any-map (λ e. not (knows P e)) expression c.args.trees.now
      ∙ list_any_at (λ e. not (knows P (expression e))) c.args.trees.now c.trees.tree-index c.tree-item.result c.trees-test.true
      (ap (λ (e : Expr). not (knows P (expression e))) (sym c.tree-item.is) ∙ ap not (sym c.knows.ensures.value ∙ c.if-not-knows.true)));
}

pub returns : goal.returns
returns c = record {
  value =
      let P = c.args.params.now in
      let none : list_any (λ (e : Expr). not (knows P (expression e))) c.args.trees.now ≡ false = grind (arith, common_steps) in
      sym (list_any-map (λ e. not (knows P e)) expression c.args.trees.now ∙ none);
}
