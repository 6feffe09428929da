-- Among fewer than two no name stands twice.
use Rattle.std.specs.Str.{bytes_eq}
use Rattle.std.proofs.Common.{◌≡◌, ℕ, ◌<◌, List, [], ◌∷◌, false, refl, sym, subst, length, map, arith}
use Rattle.qasm_parser.specs.declared.tree.Arg.{Arg}
use Rattle.gate_library.specs.Names.{has_repeat}
use Rattle.qasm_check.proofs.body.repeats.Goals as goal

one_alone : {X : Type 0} (name : X → List ℕ) (xs : List X) → length xs < 2 → has_repeat bytes_eq (map name xs) ≡ false
one_alone name [] lt = refl
one_alone name (x ∷ []) lt = refl
one_alone name (x ∷ y ∷ xs) lt = absurd (omega arith)

pub returns-then-args-lt2 : goal.returns-then-args-lt2
returns-then-args-lt2 c =
    let few : length c.args.apply.now.args.items < 2 = subst (λ xs. length xs < 2) c.as_slice-args.ensures c.if-args-lt2.true in
    sym (one_alone (λ (x : Arg). x.name) c.args.apply.now.args.items few)
