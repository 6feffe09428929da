-- The line up to the number of barriers, the placements, and the rest.
use Rattle.std.proofs.Common.{◌≡◌, ◌++◌, ◌∙◌, ap, arith, codes, decimal, drop, length}
use Rattle.serde_json.specs.Written.{compact_text}
use Rattle.route_report.specs.Compact.{lists}
use Rattle.route_report.proofs.PlacementLaws.{head-within, put-together}
use Rattle.route_report.proofs.placements.with_placements.Goals as goal

pub split_at-requires : goal.split_at-requires
split_at-requires c =
    let begun = c.in_ok-push_barriers.ensures ∙ ap (λ z. z ++ (codes "{\"barriers\":" ++ decimal c.args.report.now.barriers)) c.in_ok-bytes.ensures.items in
    omega (arith, c.len.ensures, c.push_barriers.new.bytes.ok, head-within c.args.report.now c.args.text.now c.push_barriers.new.bytes.items c.requires.text begun)

pub returns : goal.returns
returns c =
    let begun = c.in_ok-push_barriers.ensures ∙ ap (λ z. z ++ (codes "{\"barriers\":" ++ decimal c.args.report.now.barriers)) c.in_ok-bytes.ensures.items in
    let long : c.len.result ≡ length c.push_barriers.new.bytes.items = omega (arith, c.len.ensures, c.push_barriers.new.bytes.ok) in
    let told = c.as_slice-placements.ensures.value ∙ ap (λ q. q.between) c.parts.view_is in
    record {
      ok = put-together c.args.report.now c.args.parts.now c.args.text.now c.push_barriers.new.bytes.items c.extend_from_slice.new.self.items
          c.push_placements.new.bytes.items c.extend_from_slice-2.new.self.items _ c.requires.parts c.requires.text begun
          (c.split_at.ensures.back ∙ ap (λ n. drop n c.args.text.now) long)
          c.in_ok-extend_from_slice.ensures.items
          (c.in_ok-push_placements.ensures ∙ ap (λ ps. c.extend_from_slice.new.self.items ++ compact_text (lists ps)) told)
          c.in_ok-extend_from_slice-2.ensures.items;
    }
