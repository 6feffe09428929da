use Rattle.std.proofs.Common.{ℕ, List, length, subst, sym}
use Rattle.std.specs.List.{each_same}
use Rattle.matroid_partition.specs.Arrangements.{rows_with}
use Rattle.matroid_partition.specs.Blocks.{IsShown}
use Rattle.matroid_partition.proofs.FlatLaws.{flat-shown}
use Rattle.matroid_partition.proofs.partitioning.Partitioning.begin_over.Goals as goal

pub returns-clause-shown : goal.returns-clause-shown
returns-clause-shown c =
    subst (λ (q : List ℕ). IsShown (rows_with c.args.self.now c.args.row.now) (length c.args.self.now.blocks) q) (sym (each_same c.args.flat.now.places.items c.in_ok-places.places.items c.in_ok-places.ensures.cases.0))
    (flat-shown (rows_with c.args.self.now c.args.row.now) (length c.args.self.now.blocks) c.args.flat.now c.requires.flat c.requires.over)
