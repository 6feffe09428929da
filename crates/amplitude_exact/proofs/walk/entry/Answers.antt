use Rattle.std.proofs.Common.{◌≡◌, ◌∙◌, ◌^◌, ap, sym, subst, length, arith, ◌<◌}
use Rattle.std.proofs.lemmas.List.{with_items_is}
use Rattle.amplitude_exact.specs.Columns.{bits}
use Rattle.amplitude_exact.proofs.ColumnLaws.{rest_small, one_more, whole_entry, column_same, entry_same}
use Rattle.amplitude_exact.proofs.walk.entry.Goals as goal

pub write_column-requires-clause-small : goal.write_column-requires-clause-small
write_column-requires-clause-small c = rest_small c.args.wires c.args.ops.now c.ops.left c.args.to.now c.ops.column.items c.deref.result.now c.requires.branches_limit c.ops.invariant.column c.deref.ensures.value

pub ops-preserved : goal.ops-preserved
ops-preserved c =
    let h = c.ops.invariant in
    let written = c.write_column.ensures.new _ c.args.to.now (column_same c.args.wires _ c.args.to.now _ _ c.deref.ensures.value h.column) in
    record {
      in_range = omega (arith, h.in_range);
      column = column_same c.args.wires _ c.args.to.now _ _
          (ap (λ v. v.items) c.swap.ensures.x_after ∙ with_items_is c.ops.next c.write_column.new.next (written.long ∙ sym h.next ∙ sym c.ops.next.ok.0))
          (one_more c.args.wires c.args.ops.now c.ops.left _ c.args.to.now c.write_column.new.next c.ops-test.true h.in_range written);
      next = ap (λ v. length v.items) c.swap.ensures.y_after ∙ h.column.long;
    }

pub returns : goal.returns
returns c =
    let from : length c.args.from.now ≡ c.args.wires = c.requires.from_length in
    record {
      exact = c.reduced.ensures.exact c.args.ops.now c.args.from.now c.args.to.now
          (entry_same c.args.ops.now c.args.from.now c.args.to.now _ _ _ _ c.index.ensures c.branches_of.ensures.count
          (whole_entry c.args.wires c.args.ops.now c.ops.left c.args.from.now c.args.to.now c.ops.column.items c.number_of.result c.index.result.now (omega (arith, c.ops-test.false))
          (subst (λ n. c.number_of.result < 2 ^ n) from c.number_of.ensures.below)
          (ap (λ n. bits n c.number_of.result) (sym from) ∙ c.number_of.ensures.bits) c.ops.invariant.column));
    }
