-- Each wire has its own variable, and no H stands before.
use Rattle.std.proofs.Common.{map, ◌∙◌, ap}
use Rattle.std.proofs.Math.Path.{fun_ext}
use Rattle.path_parity.specs.PathSum.{fresh}
use Rattle.path_sums.specs.Names.{place_in}
use Rattle.path_sums.proofs.TouchedLaws.{labels-first}
use Rattle.path_sums.proofs.sums.Walk.new.Goals as goal

pub returns-clause-labels : goal.returns-clause-labels
returns-clause-labels c = labels-first c.args.wires c.args.touched.now.keys c.in_ok-labels.labels.items c.requires (c.in_ok-labels.ensures.labels ∙ ap (map fresh) c.as_slice.ensures.keys)

pub returns-clause-seen : goal.returns-clause-seen
returns-clause-seen c = fun_ext (λ q. c.in_ok-seen.ensures.none (place_in c.args.touched.now.keys q))
