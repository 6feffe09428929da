use Rattle.std.proofs.Common.{ℕ, List, subst, sym}
use Rattle.circuit_list.specs.declared.Gate.{Gate}
use Rattle.circuit_list.specs.declared.Gate.TheVariants.{Cx}
use Rattle.circuit_list.specs.Slots.{place_of}
use Rattle.trace_check.specs.Elides.{IsReverse}
use Rattle.trace_model.specs.Proves.{IsFirst}
use Rattle.trace_check.proofs.ElideLaws.{Told, by-reverse, no-second, no-third}
use Rattle.trace_check.proofs.elides.swapping_at.Goals as goal

pub returns-in_err-second-clause-found : goal.returns-in_err-second-clause-found
returns-in_err-second-clause-found c =
    let gs : List Gate = c.args.rest.now.gates in
    let i : ℕ = c.args.place in
    let first : IsFirst gs i (Cx c.in-Cx.c c.in-Cx.t) = subst (IsFirst gs i) c.in-Cx.is c.in_ok-first.ensures.first in
    subst (Told gs i) (sym c.from_residual-in_err-second.ensures)
    (λ a b j k. no-second gs i c.in-Cx.c c.in-Cx.t a b j k first (λ m r. c.in_err-second.ensures.found m (subst (λ n. IsReverse gs n c.in-Cx.c c.in-Cx.t m) (sym c.in_ok-first.ensures.there.1.0) r)))

pub returns-in_err-third-clause-found : goal.returns-in_err-third-clause-found
returns-in_err-third-clause-found c =
    let gs : List Gate = c.args.rest.now.gates in
    let i : ℕ = c.args.place in
    let p : ℕ = place_of c.in_ok-second.second c.args.rest.now.slots in
    let first : IsFirst gs i (Cx c.in-Cx.c c.in-Cx.t) = subst (IsFirst gs i) c.in-Cx.is c.in_ok-first.ensures.first in
    let second : IsReverse gs i c.in-Cx.c c.in-Cx.t p = subst (λ n. IsReverse gs n c.in-Cx.c c.in-Cx.t p) c.in_ok-first.ensures.there.1.0 c.in_ok-second.ensures.found.1 in
    subst (Told gs i) (sym c.from_residual-in_err-third.ensures) (λ a b j k. no-third gs i c.in-Cx.c c.in-Cx.t p a b j k first second c.in_err-third.ensures.found)

pub returns-clause-found : goal.returns-clause-found
returns-clause-found c =
    let gs : List Gate = c.args.rest.now.gates in
    let i : ℕ = c.args.place in
    let x : ℕ = c.in-Cx.c in
    let y : ℕ = c.in-Cx.t in
    let p : ℕ = place_of c.in_ok-second.second c.args.rest.now.slots in
    let q : ℕ = place_of c.in_ok-third.third c.args.rest.now.slots in
    let first : IsFirst gs i (Cx x y) = subst (IsFirst gs i) c.in-Cx.is c.in_ok-first.ensures.first in
    let second : IsReverse gs i x y p = subst (λ n. IsReverse gs n x y p) c.in_ok-first.ensures.there.1.0 c.in_ok-second.ensures.found.1 in
    let third : IsReverse gs p y x q = c.in_ok-third.ensures.found.1 in
    by-reverse gs i x y c.place.result c.place-2.result first (subst (IsReverse gs i x y) (sym c.place.ensures.value) second)
    (subst (λ n. IsReverse gs n y x c.place-2.result) (sym c.place.ensures.value) (subst (IsReverse gs p y x) (sym c.place-2.ensures.value) third))
