use Rattle.std.proofs.Common.{◌≡◌, ◌≤◌, ◌∙◌, length, map, refl, subst, sym, arith}
use Rattle.std.proofs.lemmas.List.{length-map}
use Rattle.matroid_partition.specs.Blocks.{shown_by}
use Rattle.matroid_partition.proofs.DealtLaws.{IsSpareWitness-shown, UnderwayWide, least-wide}
use Rattle.matroid_partition.proofs.spares.partition_spares.Goals as goal

pub rows-init : goal.rows-init
rows-init c = record {
  dealing = c.undealt-dealing.ensures.dealing c.args.rows.now _;
  shown = λ l. absurd (omega (arith, l, c.undealt-dealing.ensures.blocks));
  none = λ e. refl;
}

pub returns-clause-witness : goal.returns-clause-witness
returns-clause-witness c =
    let end : c.rows.place ≡ length c.args.rows.now = omega arith in
    let u : UnderwayWide c.args.rows.now (length c.args.rows.now) c.args.spares c.rows.dealing (shown_by c.rows.witness) =
    subst (λ n. UnderwayWide c.args.rows.now n c.args.spares c.rows.dealing (shown_by c.rows.witness)) end c.rows.invariant in
    let count : c.block_count-count.result ≡ length c.rows.dealing.held.blocks = c.block_count-count.ensures.value in
    IsSpareWitness-shown c.args.rows.now c.args.spares c.block_count-count.result c.rows.dealing (shown_by c.rows.witness) c.in_ok-shown.field-0.items
    (map (λ b. b.items) c.in_ok-dealt.field-0.items) u c.in_ok-dealt.ensures.partition count
    (length-map c.in_ok-dealt.field-0.items (λ b. b.items) ∙ c.in_ok-dealt.ensures.count ∙ sym count) c.in_ok-shown.ensures.one c.in_ok-shown.ensures.other

pub returns-clause-least : goal.returns-clause-least
returns-clause-least c other p =
    let end : c.rows.place ≡ length c.args.rows.now = omega arith in
    let least : length c.rows.dealing.held.blocks ≤ length other =
    least-wide c.args.rows.now c.args.spares c.rows.dealing (shown_by c.rows.witness)
    (subst (λ n. UnderwayWide c.args.rows.now n c.args.spares c.rows.dealing (shown_by c.rows.witness)) end c.rows.invariant) other p in
    omega (arith, c.in_ok-dealt.ensures.count, c.in_ok-dealt.field-0.ok.0)
