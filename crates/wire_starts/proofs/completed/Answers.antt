use Rattle.std.proofs.Common.{rules, ◌≡◌, ◌<◌, ◌∙◌, ap, length, subst, sym}
use Rattle.unitary_model.specs.Placement.{IsPlacement}
use Rattle.wire_starts.specs.Starts.{completed}
use Rattle.wire_starts.proofs.StartLaws.{IsPlacement-completed, length-completed, taken}
use Rattle.wire_starts.proofs.completed.Goals as goal

pub of-requires : goal.of-requires
of-requires c =
    let n = c.args.size in
    let long = ap length c.deref.ensures.value ∙ ap length c.in_ok-qubits.ensures ∙ length-completed n c.args.list.now c.requires.distinct c.requires.within in
    record { limit = subst (λ k. k < 4294967296) (sym long) c.ranges.size.fits }

pub unwrap-requires : goal.unwrap-requires
unwrap-requires c =
    let n = c.args.size in
    let list = c.args.list.now in
    let same = c.deref.ensures.value ∙ c.in_ok-qubits.ensures in
    let long = ap length same ∙ length-completed n list c.requires.distinct c.requires.within in
    let here = subst (λ p. IsPlacement n p) (sym same) (IsPlacement-completed n list c.requires.distinct c.requires.within) in
    taken c.in_ok-placement.placement c.deref.result.now c.in_ok-placement.ensures.none (subst (λ k. IsPlacement k c.deref.result.now) (sym long) here)

pub returns-clause-placed : goal.returns-clause-placed
returns-clause-placed c =
    let value : c.unwrap.result ≡ completed c.args.size c.args.list.now = search rules in
    ap length value ∙ length-completed c.args.size c.args.list.now c.requires.distinct c.requires.within
