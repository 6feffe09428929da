-- The write at a number is a change of the totals.
use Rattle.std.proofs.Common.{ℕ, Vec, sym, true≢false}
use Rattle.std.proofs.lemmas.Option.{slice_get_within}
use Rattle.std.specs.declared.alloc.Global.{Global}
use Rattle.rotation_merge.proofs.MapLaws.{put-changed, rows-put}
use Rattle.rotation_merge.proofs.NoteLaws.{entry-at}
use Rattle.rotation_merge.proofs.totals.Totals.put.Goals as goal

pub returns-in-Some-clause-total : goal.returns-in-Some-clause-total
returns-in-Some-clause-total c = λ row there. put-changed c.args.self.now c.args.number c.args.total row c.get_index_mut.ensures.unique there

pub returns-in-Some-clause-rows : goal.returns-in-Some-clause-rows
returns-in-Some-clause-rows c = rows-put c.args.self.now c.args.number c.args.total

pub returns-in_default-clause-total : goal.returns-in_default-clause-total
returns-in_default-clause-total c = λ row there.
    let es = c.args.self.now.sets.entries in
    let e = entry-at (λ (z : Vec ℕ Global). z.items) es c.args.number row there in
    absurd (true≢false (sym (c.in_default.ensures.found.1 (slice_get_within es c.args.number e.0 e.1))))
