-- A phase was added.
use Rattle.std.proofs.Common.{◌∷◌, [], ◌++◌, sym, subst}
use Rattle.circuit_list.specs.declared.Gate.{Gate}
use Rattle.path_parity.specs.LabelWalks.{labels_at}
use Rattle.path_parity.specs.PathSum.{PathLabel, phase_label}
use Rattle.rotation_merge.specs.Sums.{AreNoted, Gathers, rows}
use Rattle.rotation_merge.proofs.MapLaws.{gathers_phase}
use Rattle.rotation_merge.proofs.totals.Totals.gather.Goals as goal

pub returns-in_ok-add_phase-in-P-clause-gathers : goal.returns-in_ok-add_phase-in-P-clause-gathers
returns-in_ok-add_phase-in-P-clause-gathers c = λ T h.
    subst (λ (g : Gate). Gathers g (labels_at c.args.walk.now) T c.args.self.now c.add_phase.new.self) (sym c.in-P.is)
    (gathers_phase (labels_at c.args.walk.now) T c.args.self.now c.add_phase.new.self c.label.result.now c.in-P.k c.in-P.q c.label.ensures.label c.label.ensures.packed
    c.in_ok-add_phase-in-P.ensures.total c.in_ok-add_phase-in-P.ensures.constant h)

pub returns-in_ok-add_phase-in-P-clause-noted : goal.returns-in_ok-add_phase-in-P-clause-noted
returns-in_ok-add_phase-in-P-clause-noted c = λ ls h.
    let new = c.add_phase.new.self in
    subst (λ (g : Gate). AreNoted (rows new) new.notes.items (ls ++ phase_label g (labels_at c.args.walk.now))) (sym c.in-P.is)
    (subst (λ (l : PathLabel). AreNoted (rows new) new.notes.items (ls ++ l ∷ [])) c.label.ensures.label (c.in_ok-add_phase-in-P.ensures.noted ls c.label.ensures.packed h))
