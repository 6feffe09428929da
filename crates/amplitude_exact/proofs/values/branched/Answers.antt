use Rattle.std.proofs.Common.{sym, ◌∙◌, ap}
use Rattle.amplitude_exact.specs.Columns.{entry_of}
use Rattle.amplitude_exact.specs.Values.{ring_of}
use Rattle.amplitude_exact.proofs.values.branched.Goals as goal

pub returns-then-bit : goal.returns-then-bit
unfolding entry_of
returns-then-bit c = record { value = c.from_one.ensures.value ∙ ap (λ s. entry_of c.args.a c.args.b c.args.c s (ring_of c.args.to0) (ring_of c.args.to1)) (sym c.if-bit.true) }

pub returns-else-bit : goal.returns-else-bit
unfolding entry_of
returns-else-bit c = record { value = c.from_zero.ensures.value ∙ ap (λ s. entry_of c.args.a c.args.b c.args.c s (ring_of c.args.to0) (ring_of c.args.to1)) (sym c.if-bit.false) }
