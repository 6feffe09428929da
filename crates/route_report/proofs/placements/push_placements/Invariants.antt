-- What is put, with what is left, is the whole array; the text that is noted is that of the placement before.
use Rattle.std.proofs.Common.{◌≡◌, ◌++◌, drop, map}
use Rattle.serde_json.specs.View.{items_of}
use Rattle.serde_json.specs.Written.{compact_text, items_text}
use Rattle.route_report.specs.Compact.{lists, wholes}
use Rattle.route_report.proofs.placements.push_placements.Given as goal

abbrev pub invariant-placements : goal.invariant-placements
invariant-placements l = record {
  pushed : l.bytes.items ++ items_text l.later (items_of (map wholes (drop l.placement-index l.placements))) ≡ l.fn.bytes.items ++ compact_text (lists l.placements);
  noted : l.text.items ≡ compact_text (wholes l.noted);
}
