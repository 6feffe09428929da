use Rattle.std.proofs.Common.{IfSome, subst, ap, ◌∙◌, arith}
use Rattle.gf2_linear.specs.Rows.{is_sum}
use Rattle.matroid_partition.specs.Blocks.{HasRoomAt}
use Rattle.matroid_partition.proofs.ArrangementLaws.{spanned-old}
use Rattle.matroid_partition.proofs.partitioning.Partitioning.room_for.Goals as goal

pub row-row-requires : goal.row-row-requires
row-row-requires c = record { within = omega (arith, c.requires.old, c.facts.ensures.arranged.count) }

pub fit-into-requires : goal.fit-into-requires
fit-into-requires c = record { spanned = ap (is_sum c.args.self.now.all) c.row-row.ensures.value ∙ spanned-old c.args.self.now c.args.new.now c.args.place c.facts.ensures.arranged c.requires.old }

pub returns-then-is_none : goal.returns-then-is_none
returns-then-is_none c = subst (λ v. IfSome c.fit-into.result (λ k. HasRoomAt v c.args.self.now.blocks k)) c.row-row.ensures.value c.fit-into.ensures.some

pub returns-else-is_none : goal.returns-else-is_none
returns-else-is_none c = subst (λ v. IfSome c.fit-into.result (λ k. HasRoomAt v c.args.self.now.blocks k)) c.row-row.ensures.value c.fit-into.ensures.some
