use Rattle.std.proofs.Common.{subst, sym, Option}
use Rattle.circuit_list.specs.Slots.{IsNextOn, place_of}
use Rattle.rewrite_steps.proofs.RuleLaws.{no_control, no_target, Around_told}
use Rattle.rewrite_steps.specs.declared.windows.Around.{Around}
use Rattle.rewrite_steps.proofs.windows.surrounded_at.Goals as goal

pub returns-in_err-control_behind : goal.returns-in_err-control_behind
returns-in_err-control_behind c =
    let b = c.args.body.now in
    let m = place_of c.in_ok-next.next.slot b.slots in
    let q = c.args.q in
    let next = subst (λ n. IsNextOn q b.gates n m) c.slot-first.ensures.place c.in_ok-next.ensures.found.1.next in
    subst (λ (o : Option Around). Around_told b.gates c.args.place b.wires o) (sym c.from_residual-in_err-control_behind.ensures)
    (no_control b.gates c.args.place q c.in-Cx.c c.in-Cx.t m c.requires.first (record { next = next; there = c.in-Cx.ensures.there }) c.in_err-control_behind.ensures.found)

pub returns-in_err-target_behind : goal.returns-in_err-target_behind
returns-in_err-target_behind c =
    let b = c.args.body.now in
    let m = place_of c.in_ok-next.next.slot b.slots in
    let q = c.args.q in
    let next = subst (λ n. IsNextOn q b.gates n m) c.slot-first.ensures.place c.in_ok-next.ensures.found.1.next in
    subst (λ (o : Option Around). Around_told b.gates c.args.place b.wires o) (sym c.from_residual-in_err-target_behind.ensures)
    (no_target b.gates c.args.place q c.in-Cx.c c.in-Cx.t m c.requires.first (record { next = next; there = c.in-Cx.ensures.there }) c.in_err-target_behind.ensures.found)
