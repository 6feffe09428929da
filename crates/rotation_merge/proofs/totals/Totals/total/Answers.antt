-- A number that has a row has an entry, and its value is the total.
use Rattle.std.proofs.Common.{ℕ, Vec}
use Rattle.std.specs.declared.alloc.Global.{Global}
use Rattle.rotation_merge.proofs.MapLaws.{total-found}
use Rattle.rotation_merge.proofs.NoteLaws.{entry-at}
use Rattle.rotation_merge.proofs.totals.Totals.total.Goals as goal

pub returns-in-Some : goal.returns-in-Some
returns-in-Some c = record {
  total = λ row there. total-found c.args.self.now c.args.number c.in-Some.field-0-0.now c.in-Some.total.now row c.in-Some.ensures.entry c.in-Some.ensures.value there;
}

pub returns-in-None : goal.returns-in-None
returns-in-None c = record {
  total = λ row there.
      let e = entry-at (λ (z : Vec ℕ Global). z.items) c.args.self.now.sets.entries c.args.number row there in
      let some = e.1 in
      let none = c.in-None.ensures.entry in
      absurd (cc);
}
