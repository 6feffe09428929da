use Rattle.std.proofs.Common.{◌≡◌, ◌<◌, not, length, map, sym, subst, ◌∙◌, ap}
use Rattle.circuit_list.specs.declared.Gate.{Gate}
use Rattle.circuit_list.specs.Gates.{IsFine}
use Rattle.path_parity.specs.LabelWalks.{LabelWalk, labels_at}
use Rattle.path_parity.specs.PathSum.{label, add_labels, flipped, fresh, labels_after}
use Rattle.path_parity.specs.Sets.{label_of}
use Rattle.path_parity.proofs.WalkLaws.{labels-get, walk-set}
use Rattle.path_parity.proofs.walk.Walk.pass.Goals as goal

pub returns-in_ok-write_fresh-in-H-clause-labels : goal.returns-in_ok-write_fresh-in-H-clause-labels
returns-in_ok-write_fresh-in-H-clause-labels c =
    let w : LabelWalk = c.args.self.now in
    let e : map label_of c.self.inside.labels.items ≡ w.labels = ap (λ (z : LabelWalk). z.labels) c.self.view_is in
    let h : c.in-H.q < length w.labels = subst (IsFine (length w.labels)) c.in-H.is c.requires.fine in
    let n : c.self.inside.unused ≡ w.unused = ap (λ (z : LabelWalk). z.unused) c.self.view_is in
    let l : label_of c.swap.new.x ≡ fresh w.unused = ap label_of c.swap.ensures.x_after ∙ c.in_ok-write_fresh-in-H.ensures.label ∙ ap fresh n in
    walk-set label_of c.self.inside.labels.items w c.in-H.q c.swap.new.x (fresh w.unused) e h l
    ∙ ap (λ (g : Gate). labels_after g (labels_at w) w.unused) (sym c.in-H.is)

pub returns-in-X-clause-labels : goal.returns-in-X-clause-labels
returns-in-X-clause-labels c =
    let w : LabelWalk = c.args.self.now in
    let e : map label_of c.self.inside.labels.items ≡ w.labels = ap (λ (z : LabelWalk). z.labels) c.self.view_is in
    let h : c.in-X.q < length w.labels = subst (IsFine (length w.labels)) c.in-X.is c.requires.fine in
    let a : label_of c.index_mut-in-X.result.now ≡ labels_at w c.in-X.q = labels-get label_of c.self.inside.labels.items w c.in-X.q c.index_mut-in-X.result.now e h c.index_mut-in-X.ensures.value in
    let b : label_of c.index.result.now ≡ labels_at w c.in-X.q = labels-get label_of c.self.inside.labels.items w c.in-X.q c.index.result.now e h c.index.ensures in
    walk-set label_of c.self.inside.labels.items w c.in-X.q (record { set = c.index_mut-in-X.result.now.set; bit = not c.index.result.now.bit }) (flipped (labels_at w c.in-X.q)) e h
    (λ i. label (a i).variables (not (b i).bit))
    ∙ ap (λ (g : Gate). labels_after g (labels_at w) w.unused) (sym c.in-X.is)

pub returns-in_ok-write_sum-in-Cx-clause-labels : goal.returns-in_ok-write_sum-in-Cx-clause-labels
returns-in_ok-write_sum-in-Cx-clause-labels c =
    let w : LabelWalk = c.args.self.now in
    let e : map label_of c.self.inside.labels.items ≡ w.labels = ap (λ (z : LabelWalk). z.labels) c.self.view_is in
    let f = subst (IsFine (length w.labels)) c.in-Cx.is c.requires.fine in
    let a : label_of c.index-in-Cx.result.now ≡ labels_at w c.in-Cx.t = labels-get label_of c.self.inside.labels.items w c.in-Cx.t c.index-in-Cx.result.now e f.1.0 c.index-in-Cx.ensures in
    let b : label_of c.index-in-Cx-2.result.now ≡ labels_at w c.in-Cx.c = labels-get label_of c.self.inside.labels.items w c.in-Cx.c c.index-in-Cx-2.result.now e f.0 c.index-in-Cx-2.ensures in
    walk-set label_of c.self.inside.labels.items w c.in-Cx.t c.swap-in-Cx.new.x (add_labels (labels_at w c.in-Cx.t) (labels_at w c.in-Cx.c)) e f.1.0
    (ap label_of c.swap-in-Cx.ensures.x_after ∙ c.in_ok-write_sum-in-Cx.ensures.sum ∙ (λ i. add_labels (a i) (b i)))
    ∙ ap (λ (g : Gate). labels_after g (labels_at w) w.unused) (sym c.in-Cx.is)
