-- Equal maps have the same set at each variable.
use Rattle.std.proofs.Common.{sym, ◌∙◌}
use Rattle.path_sums.proofs.NameLaws.{same-before, before-same}
use Rattle.path_sums.proofs.sums.same_sets.Goals as goal

pub returns : goal.returns
returns c = (λ t. same-before c.args.left.now c.args.right.now (sym c.eq.ensures ∙ t), λ h. c.eq.ensures ∙ before-same c.args.left.now c.args.right.now c.requires.left c.requires.right h)
