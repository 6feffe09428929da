-- The counts so far, with those from here on, are all.
use Rattle.std.proofs.Common.{◌≡◌, ◌+◌, drop, length, map}
use Rattle.program_parts.specs.Cuts.{whole}
use Rattle.unitary_model.specs.Operations.{cx_count, t_count}
use Rattle.qroute_top.proofs.plan.counts_of.Given as goal

abbrev pub invariant-parts : goal.invariant-parts
invariant-parts l = record {
  cx : l.cx + cx_count (whole (drop l.part-index (map (λ o. o.list) l.parts))) ≡ cx_count l.source.ops;
  operations : l.operations + length (whole (drop l.part-index (map (λ o. o.list) l.parts))) ≡ length l.source.ops;
  t : l.t + t_count (whole (drop l.part-index (map (λ o. o.list) l.parts))) ≡ t_count l.source.ops;
}
