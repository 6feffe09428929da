use Rattle.std.proofs.Common.{◌≡◌, ◌<◌, ◌≤◌, ◌+◌, ◌++◌, ℕ, List, All, length, map, take, subst, sym, slice_index_or, ◌∙◌, ap, arith}
use Rattle.std.specs.List.Sorted.{IsStrictlyIncreasing}
use Rattle.std.proofs.lemmas.Grind.{common_steps}
use Rattle.gf2_linear.specs.Rows.{rank}
use Rattle.phase_poly.specs.Polys.{Term}
use Rattle.phase_poly.specs.Resynthesis.{at_places, picked, term_rows}
use Rattle.spare_layers.specs.Weaving.{IsWoven}
use Rattle.spare_layers.proofs.AnewLaws.{block-rising, block-room, block-within, blocks-picked, terms-at, wide-first}
use Rattle.spare_layers.proofs.PlacedLaws.{differ-at}
use Rattle.spare_layers.proofs.WovenLaws.{woven-block, woven-none}
use Rattle.spare_layers.proofs.weaving.put_blocks.Goals as goal

pub parts-init : goal.parts-init
parts-init c = record {
  wide = wide-first c.args.wires c.args.spares c.args.held.now.items c.requires.first;
  woven = woven-none c.args.wires c.args.spares c.args.gates.now.items c.args.held.now.items c.requires.none c.requires.first;
}

pub put_block-requires-clause-within : goal.put_block-requires-clause-within
put_block-requires-clause-within c =
    let items : c.deref.result.now ≡ (slice_index_or c.args.blocks.now c.parts.block-index c.block-item.result).items = grind (arith, common_steps) in
    subst (λ (ps : List ℕ). All (λ i. i < length c.args.terms.now) ps) (sym items)
    (block-within (λ b. b.items) c.args.terms.now c.args.spares c.args.blocks.now c.requires.partition c.parts.block-index c.block-item.result c.parts-test.true)

pub put_block-requires-clause-room : goal.put_block-requires-clause-room
put_block-requires-clause-room c =
    let items : c.deref.result.now ≡ (slice_index_or c.args.blocks.now c.parts.block-index c.block-item.result).items = grind (arith, common_steps) in
    subst (λ (ps : List ℕ). length (term_rows c.args.terms.now ps) ≤ rank (term_rows c.args.terms.now ps) + c.args.spares) (sym items)
    (block-room (λ b. b.items) c.args.terms.now c.args.spares c.args.blocks.now c.requires.partition c.parts.block-index c.block-item.result c.parts-test.true)

pub parts-preserved : goal.parts-preserved
parts-preserved c =
    let items : c.deref.result.now ≡ (slice_index_or c.args.blocks.now c.parts.block-index c.block-item.result).items = grind (arith, common_steps) in
    let within : All (λ i. i < length c.args.terms.now) c.deref.result.now =
    subst (λ (ps : List ℕ). All (λ i. i < length c.args.terms.now) ps) (sym items)
    (block-within (λ b. b.items) c.args.terms.now c.args.spares c.args.blocks.now c.requires.partition c.parts.block-index c.block-item.result c.parts-test.true) in
    let rising : IsStrictlyIncreasing c.deref.result.now =
    subst IsStrictlyIncreasing (sym items) (block-rising (λ b. b.items) c.args.blocks.now c.requires.ascending c.parts.block-index c.block-item.result c.parts-test.true) in
    record {
      wide = c.in_ok-put_block.ensures.wide;
      woven = subst (λ (ts : List Term). IsWoven c.args.wires c.args.spares (c.parts.block-index + 1) c.put_block.new.gates.items c.put_block.new.held.items ts)
          (ap (λ (ps : List ℕ). picked c.args.terms.now (take c.parts.block-index (map (λ b. b.items) c.args.blocks.now)) ++ at_places c.args.terms.now ps) items
          ∙ blocks-picked (λ b. b.items) c.args.terms.now c.args.blocks.now c.parts.block-index c.block-item.result c.parts-test.true)
          (woven-block c.args.wires c.args.spares c.parts.block-index c.parts.gates.items c.put_block.new.gates.items c.parts.held.items c.put_block.new.held.items
          (picked c.args.terms.now (take c.parts.block-index (map (λ b. b.items) c.args.blocks.now))) (at_places c.args.terms.now c.deref.result.now)
          c.in_ok-put_block.ensures.wide.long (terms-at c.args.terms.now c.args.wires c.deref.result.now c.requires.terms within)
          (differ-at c.args.terms.now c.deref.result.now c.requires.differ rising within) c.parts.invariant.woven c.in_ok-put_block.ensures.put);
    }
