use Rattle.std.proofs.Common.{sym, ◌∙◌, false, ◌≡◌, arith}
use Rattle.std.specs.Prelude.{nat_lt}
use Rattle.std.proofs.lemmas.Bool.Decides.{nat_tests}
use Rattle.amplitude_exact.proofs.BitLaws.{bit-at, bit-past}
use Rattle.amplitude_exact.proofs.bits.bit_at.Goals as goal

pub returns-then-q-wires : goal.returns-then-q-wires
returns-then-q-wires c = record { bit = sym (bit-at c.args.wires c.args.number c.args.q c.if-q-wires.true) }

pub returns-else-q-wires : goal.returns-else-q-wires
returns-else-q-wires c =
    let off : nat_lt c.args.q c.args.wires ≡ false = grind (arith, nat_tests, c.if-q-wires.false) in
    record { bit = off ∙ sym (bit-past c.args.wires c.args.number c.args.q c.if-q-wires.false) }
