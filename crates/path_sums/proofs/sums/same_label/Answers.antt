-- The same bit and the same row.
use Rattle.std.proofs.Common.{◌≡◌, sym, ◌∙◌, ap}
use Rattle.std.specs.Cmp.{booleans_Decides}
use Rattle.std.specs.Cmp.Lexicographic.{bytes_decides}
use Rattle.path_parity.specs.PathSum.{PathLabel, label}
use Rattle.path_parity.specs.Sets.{set_of}
use Rattle.path_parity.proofs.SetLaws.{set-same}
use Rattle.path_sums.proofs.sums.same_label.Goals as goal

pub returns-then-left-right : goal.returns-then-left-right
returns-then-left-right c =
    let l = c.args.left.now in
    let r = c.args.right.now in
    let bits : l.bit ≡ r.bit = (booleans_Decides l.bit r.bit).0 c.if-left-right.true in (
      λ t i. label (set_of ((bytes_decides l.set.items r.set.items).0 (sym c.eq.ensures ∙ t) i)) (bits i),
      λ h. c.eq.ensures ∙ (bytes_decides l.set.items r.set.items).1 (set-same l.set.items r.set.items c.requires.left c.requires.right (ap (λ (k : PathLabel). k.variables) h)),
    )
