use Rattle.std.proofs.Common.{◌++◌, ◌∷◌, [], List, ap, ◌∙◌}
use Rattle.matroid_partition.specs.declared.search.Node.{Node}
use Rattle.matroid_partition.specs.Arrangements.{rows_with}
use Rattle.matroid_partition.proofs.ArrangementLaws.{state-with}
use Rattle.matroid_partition.proofs.SearchLaws.{chain-near}
use Rattle.matroid_partition.proofs.partitioning.Partitioning.search.Goals as goal

pub returns-in-Some-clause-some : goal.returns-in-Some-clause-some
returns-in-Some-clause-some c =
    chain-near (rows_with c.args.self.now c.args.new.now) c.args.self.now.homes c.args.self.now.blocks c.push.new.self.items c.in-Some.place c.in-Some.into
    (state-with c.args.self.now c.args.new.now c.facts.ensures.arranged)
    (c.in_ok-push.ensures.items ∙ ap (λ (q : List Node). q ++ record { place = c.in-Some.place; parent = 0 } ∷ []) c.requires.start) c.in-Some.ensures.member c.in-Some.ensures.room
