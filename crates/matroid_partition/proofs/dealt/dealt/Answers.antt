use Rattle.std.proofs.Common.{◌∙◌, length, map, sym, ap}
use Rattle.std.specs.List.{range_with_len}
use Rattle.std.proofs.lemmas.List.{length-map}
use Rattle.std.proofs.lemmas.List.FromFn.{length-map-range_with_len}
use Rattle.matroid_partition.specs.Dealings.{at_home}
use Rattle.matroid_partition.proofs.DealtLaws.{housed-ascending, housed-partition}
use Rattle.matroid_partition.proofs.dealt.dealt.Goals as goal

pub returns-clause-partition : goal.returns-clause-partition
returns-clause-partition c =
    housed-partition c.args.rows.now c.args.spares c.args.dealing.now c.in_ok-homes.homes.items (map (λ b. b.items) c.in_ok-lists.lists.items) c.facts.ensures.arranged c.requires.dealing c.in_ok-homes.ensures
    (c.in_ok-lists.ensures ∙ (λ i. map (at_home (c.deref.ensures.value i)) (range_with_len 0 (c.block_count.ensures.value i))))

pub returns-clause-ascending : goal.returns-clause-ascending
returns-clause-ascending c =
    housed-ascending c.deref.result.now (range_with_len 0 c.block_count.result) (map (λ b. b.items) c.in_ok-lists.lists.items) c.in_ok-lists.ensures

pub returns-clause-count : goal.returns-clause-count
returns-clause-count c =
    sym (length-map c.in_ok-lists.lists.items (λ b. b.items)) ∙ ap length c.in_ok-lists.ensures ∙ length-map-range_with_len (at_home c.deref.result.now) 0 c.block_count.result
    ∙ c.block_count.ensures.value
