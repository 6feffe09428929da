use Rattle.std.proofs.Common.{ℕ, ◌+◌, Vec, cond, not, length, sym, ◌∙◌, ap}
use Rattle.std.specs.Prelude.{nat_eq}
use Rattle.std.specs.List.{list_any}
use Rattle.std.specs.declared.alloc.Global.{Global}
use lib.Pointwise.{pointwise}
use Rattle.path_parity.proofs.OddSetLaws.{holds-in, holds-out}
use Rattle.path_parity.proofs.odd_set.OddSet.toggle.Goals as goal

pub returns-in_ok-insert : goal.returns-in_ok-insert
returns-in_ok-insert c = record {
  toggled = λ s h.
      holds-in (λ k. k.items) c.args.self.now.sets.keys c.swap_remove.new.self.keys c.insert.new.self.keys c.args.set.now c.in_ok-from_slice.field-0.items s
      c.in_ok-from_slice.ensures.items c.requires.packed (sym c.swap_remove.ensures.found ∙ c.if-not-swap_remove.true) c.if-not-swap_remove.ensures.unchanged
      c.in_ok-insert.ensures.updates.1 c.in_ok-insert.ensures.updates.3
      (c.in_ok-insert.ensures.len ∙ ap (λ b. length c.swap_remove.new.self.keys + cond b 1 0)
      (c.in_ok-insert.ensures.added ∙ ap not (ap (λ row. list_any (λ (k : Vec ℕ Global). pointwise nat_eq row k.items) c.swap_remove.new.self.keys) c.in_ok-from_slice.ensures.items ∙ c.swap_remove.ensures.updates.1)))
      h;
}

pub returns-else-not-swap_remove : goal.returns-else-not-swap_remove
returns-else-not-swap_remove c = record {
  toggled = λ s h.
      holds-out (λ k. k.items) c.args.self.now.sets.keys c.swap_remove.new.self.keys c.args.set.now s
      c.requires.packed (sym c.swap_remove.ensures.found ∙ c.if-not-swap_remove.false) c.swap_remove.ensures.updates.1 c.swap_remove.ensures.updates.3
      c.if-not-swap_remove.ensures.len
      h;
}
