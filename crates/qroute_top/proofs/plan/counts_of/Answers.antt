-- The counts of one part more; all of them are few.
use Rattle.std.proofs.Common.{ap, arith, length, length-append}
use Rattle.unitary_model.specs.Operations.{cx_count, t_count}
use Rattle.unitary_model.proofs.Steps.{cx_count-append, t_count-append}
use Rattle.qroute_top.proofs.PlanLaws.{counted-next, few_cx, few_cx_counts, few_t, few_t_counts}
use Rattle.qroute_top.proofs.plan.counts_of.Goals as goal

pub cx_count_of-cx-requires : goal.cx_count_of-cx-requires
cx_count_of-cx-requires c =
    let next = counted-next length length-append c.parts-parts.result.now c.parts.part-index c.part-item.result c.parts-test.true c.part-item.is in
    record {
      fits = few_cx_counts c.as_slice-list.result.now
          (omega (arith, next, ap length c.as_slice-list.ensures.value, c.parts.invariant.operations, c.facts.ensures.operations_limit));
    }

pub overflow_add-cx : goal.overflow_add-cx
overflow_add-cx c =
    let next = counted-next cx_count cx_count-append c.parts-parts.result.now c.parts.part-index c.part-item.result c.parts-test.true c.part-item.is in
    omega (
      arith,
      next,
      c.cx_count_of-cx.ensures.count,
      ap cx_count c.as_slice-list.ensures.value,
      c.parts.invariant.cx,
      few_cx c.args.source.now.ops,
      c.facts.ensures.operations_limit,
    )

pub t_count_of-t-requires : goal.t_count_of-t-requires
t_count_of-t-requires c =
    let next = counted-next length length-append c.parts-parts.result.now c.parts.part-index c.part-item.result c.parts-test.true c.part-item.is in
    record {
      fits = few_t_counts c.as_slice-list.result.now
          (omega (arith, next, ap length c.as_slice-list.ensures.value, c.parts.invariant.operations, c.facts.ensures.operations_limit));
    }

pub overflow_add-t : goal.overflow_add-t
overflow_add-t c =
    let next = counted-next t_count t_count-append c.parts-parts.result.now c.parts.part-index c.part-item.result c.parts-test.true c.part-item.is in
    omega (
      arith,
      next,
      c.t_count_of-t.ensures.count,
      ap t_count c.as_slice-list.ensures.value,
      c.parts.invariant.t,
      few_t c.args.source.now.ops,
      c.facts.ensures.operations_limit,
    )

pub parts-preserved : goal.parts-preserved
parts-preserved c =
    let os = c.parts-parts.result.now in
    let cx = counted-next cx_count cx_count-append os c.parts.part-index c.part-item.result c.parts-test.true c.part-item.is in
    let all = counted-next length length-append os c.parts.part-index c.part-item.result c.parts-test.true c.part-item.is in
    let t = counted-next t_count t_count-append os c.parts.part-index c.part-item.result c.parts-test.true c.part-item.is in
    record {
      cx = omega (arith, cx, c.cx_count_of-cx.ensures.count, ap cx_count c.as_slice-list.ensures.value, c.parts.invariant.cx);
      operations = omega (arith, all, ap length c.as_slice-list.ensures.value, c.parts.invariant.operations);
      t = omega (arith, t, c.t_count_of-t.ensures.count, ap t_count c.as_slice-list.ensures.value, c.parts.invariant.t);
    }
