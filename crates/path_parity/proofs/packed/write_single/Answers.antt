use Rattle.std.proofs.Common.{◌≡◌, ℕ, ◌/◌, ◌*◌, ◌<◌, ◌^◌, ◌%◌, [], ◌∷◌, ◌++◌, ◌∙◌, ap, arith}
use Rattle.std.proofs.lemmas.Nat.{pow_below}
use Rattle.path_parity.specs.Sets.{set_of}
use Rattle.path_parity.proofs.SetLaws.{set-single}
use Rattle.path_parity.proofs.packed.write_single.Goals as goal

bit : (b : ℕ) → b < 64 → 1 * 2 ^ b % 2 ^ 64 ≡ 2 ^ b
bit b l = let lt : 2 ^ b < 2 ^ 64 = pow_below b 64 l in omega arith

pub returns-clause-set : goal.returns-clause-set
returns-clause-set c =
    let v = c.args.variable in
    ap set_of (c.in_ok-push-2.ensures.items ∙ ap (λ xs. xs ++ 1 * 2 ^ (v % 64) % 2 ^ 64 ∷ []) (c.in_ok-push.ensures.items ∙ ap (λ xs. xs ++ v / 64 ∷ []) c.clear.ensures.items)
    ∙ ap (λ w. v / 64 ∷ w ∷ []) (bit (v % 64) (omega arith)))
    ∙ set-single v
