-- Wrapping the product and then the sum is the same as taking both modulo 2^64.
use Rattle.std.proofs.Common.{◌≡◌, ℕ, ◌+◌, ◌*◌, ◌/◌, ◌%◌, ◌^◌, ap, ◌∙◌}
use Rattle.std.proofs.Math.Nat.{mod-add-mod, mul_comm}
use Rattle.bench_program.specs.Draws.{next, draw}
use Rattle.bench_program.proofs.draws.Draws.draw.Goals as goal

wrapped : (x a c m : ℕ) → (x * a % m + c) % m ≡ (a * x + c) % m
wrapped x a c m = mod-add-mod (x * a) m c ∙ ap (λ y. (y + c) % m) (mul_comm x a)

pub returns-clause-state : goal.returns-clause-state
unfolding next
returns-clause-state c = wrapped c.args.self.now.state 6364136223846793005 1442695040888963407 (2 ^ 64)

pub returns-clause-number : goal.returns-clause-number
unfolding next draw
returns-clause-number c =
    ap (λ y. y / 2 ^ 33) (wrapped c.args.self.now.state 6364136223846793005 1442695040888963407 (2 ^ 64))
