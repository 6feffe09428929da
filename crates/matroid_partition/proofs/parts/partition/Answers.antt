use Rattle.std.proofs.Common.{refl, get_or, ◌≡◌, ◌≤◌, ◌+◌, ℕ, List, length, map, take, subst, sym, ap, ◌∙◌, arith}
use Rattle.std.proofs.Math.Seq.{take-length}
use Rattle.std.proofs.lemmas.List.{get_or_read, length-map}
use Rattle.matroid_partition.specs.declared.blocks.Block.{Block}
use Rattle.matroid_partition.specs.Blocks.{shown_by}
use Rattle.matroid_partition.specs.Partitions.{IsPartition}
use Rattle.matroid_partition.proofs.PartLaws.{IsWitness-shown, least-shown, underway-opened, underway-entered, Underway}
use Rattle.matroid_partition.proofs.parts.partition.Goals.{in-Some, in_default}
use Rattle.matroid_partition.proofs.parts.partition.Goals as goal

pub rows-init : goal.rows-init
rows-init c = (
  (record {
    so_far = c.none-underway.ensures.rows;
    shown = λ l. absurd (omega (arith, l, ap (λ (q : List Block). length q) c.none-underway.ensures.blocks));
    none = λ e. refl;
  }),
  c.no_flat-flat.ensures.flat c.none-underway.result.rows,
)

pub bring-requires : goal.bring-requires
bring-requires c = record { nonzero = λ z. c.requires.nonzero c.rows.row-index c.row-item.result c.rows-test.true (sym c.row-item.is ∙ z); flat = c.rows.invariant.1 }

pub rows-preserved : goal.rows-preserved
rows-preserved c =
    let x : c.row-item.result ≡ get_or c.args.rows.now c.rows.row-index 0 = get_or_read c.args.rows.now c.rows.row-index c.row-item.result c.rows-test.true c.row-item.is 0 in
    elim c.match-branch-2.branch [
      | in-Some w ↦
          let shown = rw w.in-Some.is at c.in_ok-reached.ensures.shown in
          let opened = rw w.in-Some.is at c.in_ok-reached.ensures.opened in (
            subst (λ (q : List ℕ). Underway c.args.rows.now (c.rows.row-index + 1) c.bring.new.self q) (ap shown_by (sym w.witness-is))
                (underway-opened c.args.rows.now c.rows.row-index c.row-item.result c.rows.underway c.bring.new.self (shown_by c.rows.witness) (shown_by w.in-Some.reached) c.rows.invariant.0
                c.rows-test.true x c.in_ok-reached.ensures.rows opened shown),
            c.in_ok-reached.ensures.flat,
          )
      | in_default w ↦
          let none = rw w.in_default.is at c.in_ok-reached.ensures.none in (
            subst (λ (q : List ℕ). Underway c.args.rows.now (c.rows.row-index + 1) c.bring.new.self q) (ap shown_by (sym w.witness-is))
                (underway-entered c.args.rows.now c.rows.row-index c.row-item.result c.rows.underway c.bring.new.self (shown_by c.rows.witness) c.rows.invariant.0
                c.rows-test.true x c.in_ok-reached.ensures.rows none),
            c.in_ok-reached.ensures.flat,
          )
    ]

pub returns-clause-partition : goal.returns-clause-partition
returns-clause-partition c =
    let end : c.rows.row-index ≡ length c.args.rows.now = omega arith in
    subst (λ (q : List ℕ). IsPartition q (map (λ b. b.items) c.in_ok-blocks.blocks.items)) (c.rows.invariant.0.so_far ∙ ap (λ k. take k c.args.rows.now) end ∙ take-length c.args.rows.now)
    c.in_ok-blocks.ensures.partition

pub returns-clause-witness : goal.returns-clause-witness
returns-clause-witness c =
    let end : c.rows.row-index ≡ length c.args.rows.now = omega arith in
    let lists : List (List ℕ) = map (λ b. b.items) c.in_ok-blocks.blocks.items in
    let u : Underway c.args.rows.now (length c.args.rows.now) c.rows.underway (shown_by c.rows.witness) =
    subst (λ n. Underway c.args.rows.now n c.rows.underway (shown_by c.rows.witness)) end c.rows.invariant.0 in
    let count : c.len.result ≡ length c.rows.underway.blocks = c.len.ensures ∙ c.in_ok-blocks.blocks.ok.0 ∙ c.in_ok-blocks.ensures.count in
    let partition : IsPartition c.args.rows.now lists =
    subst (λ (q : List ℕ). IsPartition q lists) (u.so_far ∙ take-length c.args.rows.now) c.in_ok-blocks.ensures.partition in
    IsWitness-shown c.args.rows.now c.rows.underway (shown_by c.rows.witness) c.in_ok-witness.witness.items c.len.result lists u partition count
    (length-map c.in_ok-blocks.blocks.items (λ b. b.items) ∙ c.in_ok-blocks.ensures.count ∙ sym count) c.in_ok-witness.ensures.one c.in_ok-witness.ensures.other

pub returns-clause-least : goal.returns-clause-least
returns-clause-least c other p =
    let end : c.rows.row-index ≡ length c.args.rows.now = omega arith in
    let least : length c.rows.underway.blocks ≤ length other =
    least-shown c.args.rows.now c.rows.underway (shown_by c.rows.witness) (subst (λ n. Underway c.args.rows.now n c.rows.underway (shown_by c.rows.witness)) end c.rows.invariant.0) other p in
    omega (arith, least, c.in_ok-blocks.ensures.count, c.in_ok-blocks.blocks.ok.0)

pub returns-clause-one : goal.returns-clause-one
returns-clause-one c e = c.in_ok-witness.ensures.one (c.len.ensures ∙ e)

pub returns-clause-none : goal.returns-clause-none
returns-clause-none c e =
    c.in_ok-witness.ensures.other (λ q. absurd (omega (arith, c.len.ensures, e, q)))
    ∙ c.rows.invariant.0.none (sym c.in_ok-blocks.ensures.count ∙ sym c.in_ok-blocks.blocks.ok.0 ∙ e)

pub returns-clause-ascending : goal.returns-clause-ascending
returns-clause-ascending c = c.in_ok-blocks.ensures.ascending
