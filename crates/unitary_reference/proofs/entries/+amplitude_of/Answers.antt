use Rattle.std.proofs.Common.{sym, ◌∙◌, ap, true, false}
use Rattle.unitary_model.specs.declared.Op.TheVariants.{U}
use Rattle.unitary_model.specs.Ring.{unit, nought}
use Rattle.unitary_model.specs.Amplitude.{with_bit}
use Rattle.unitary_reference.proofs.ValueLaws.{first_and_rest, small, entry-U, put_back, put_back_once, entry-none}
use Rattle.unitary_reference.proofs.entries.+amplitude_of.Goals as goal

pub from_one-requires-clause-first : goal.from_one-requires-clause-first
from_one-requires-clause-first t c = small c.args.ops.now _ _ _ _ _ _ _ _ (first_and_rest c.args.ops.now (U c.in-U.a c.in-U.b c.in-U.c c.in-U.q) _ c.in-len1-up.len_at_least c.in-U.is) c.requires.weight_limit c.amplitude_of-to0.ensures.entry

pub from_one-requires-clause-second : goal.from_one-requires-clause-second
from_one-requires-clause-second t c = small c.args.ops.now _ _ _ _ _ _ _ _ (first_and_rest c.args.ops.now (U c.in-U.a c.in-U.b c.in-U.c c.in-U.q) _ c.in-len1-up.len_at_least c.in-U.is) c.requires.weight_limit c.amplitude_of-to1.ensures.entry

pub from_zero-requires-clause-first : goal.from_zero-requires-clause-first
from_zero-requires-clause-first t c = small c.args.ops.now _ _ _ _ _ _ _ _ (first_and_rest c.args.ops.now (U c.in-U.a c.in-U.b c.in-U.c c.in-U.q) _ c.in-len1-up.len_at_least c.in-U.is) c.requires.weight_limit c.amplitude_of-to0.ensures.entry

pub from_zero-requires-clause-second : goal.from_zero-requires-clause-second
from_zero-requires-clause-second t c = small c.args.ops.now _ _ _ _ _ _ _ _ (first_and_rest c.args.ops.now (U c.in-U.a c.in-U.b c.in-U.c c.in-U.q) _ c.in-len1-up.len_at_least c.in-U.is) c.requires.weight_limit c.amplitude_of-to1.ensures.entry

pub returns-then-was-clause-entry : goal.returns-then-was-clause-entry
returns-then-was-clause-entry t c = entry-U c.args.ops.now _ c.in-U.a c.in-U.b c.in-U.c c.in-U.q c.args.x.now c.put_bit-in-U.new.x c.put_bit-in-U-2.new.x c.args.y.now _ _ _ true (first_and_rest c.args.ops.now (U c.in-U.a c.in-U.b c.in-U.c c.in-U.q) _ c.in-len1-up.len_at_least c.in-U.is)
    c.put_bit-in-U.ensures.put (c.put_bit-in-U-2.ensures.put ∙ ap (λ z. with_bit z c.in-U.q true) c.amplitude_of-to0.ensures.kept) c.amplitude_of-to0.ensures.entry c.amplitude_of-to1.ensures.entry (sym c.if-was.true ∙ c.bit_at-was-in-U.ensures.bit) c.from_one.ensures.value

pub returns-then-was-clause-kept : goal.returns-then-was-clause-kept
returns-then-was-clause-kept t c = put_back c.args.x.now c.put_bit-in-U.new.x c.put_bit-in-U-2.new.x c.put_bit-in-U-3.new.x c.in-U.q c.bit_at-was-in-U.result
    c.put_bit-in-U.ensures.put (c.put_bit-in-U-2.ensures.put ∙ ap (λ z. with_bit z c.in-U.q true) c.amplitude_of-to0.ensures.kept)
    (c.put_bit-in-U-3.ensures.put ∙ ap (λ z. with_bit z c.in-U.q c.bit_at-was-in-U.result) c.amplitude_of-to1.ensures.kept) c.bit_at-was-in-U.ensures.bit

pub returns-else-was-clause-entry : goal.returns-else-was-clause-entry
returns-else-was-clause-entry t c = entry-U c.args.ops.now _ c.in-U.a c.in-U.b c.in-U.c c.in-U.q c.args.x.now c.put_bit-in-U.new.x c.put_bit-in-U-2.new.x c.args.y.now _ _ _ false (first_and_rest c.args.ops.now (U c.in-U.a c.in-U.b c.in-U.c c.in-U.q) _ c.in-len1-up.len_at_least c.in-U.is)
    c.put_bit-in-U.ensures.put (c.put_bit-in-U-2.ensures.put ∙ ap (λ z. with_bit z c.in-U.q true) c.amplitude_of-to0.ensures.kept) c.amplitude_of-to0.ensures.entry c.amplitude_of-to1.ensures.entry (sym c.if-was.false ∙ c.bit_at-was-in-U.ensures.bit) c.from_zero.ensures.value

pub returns-else-was-clause-kept : goal.returns-else-was-clause-kept
returns-else-was-clause-kept t c = put_back c.args.x.now c.put_bit-in-U.new.x c.put_bit-in-U-2.new.x c.put_bit-in-U-3.new.x c.in-U.q c.bit_at-was-in-U.result
    c.put_bit-in-U.ensures.put (c.put_bit-in-U-2.ensures.put ∙ ap (λ z. with_bit z c.in-U.q true) c.amplitude_of-to0.ensures.kept)
    (c.put_bit-in-U-3.ensures.put ∙ ap (λ z. with_bit z c.in-U.q c.bit_at-was-in-U.result) c.amplitude_of-to1.ensures.kept) c.bit_at-was-in-U.ensures.bit

pub returns-else-not-bit_at-clause-kept : goal.returns-else-not-bit_at-clause-kept
returns-else-not-bit_at-clause-kept t c = put_back_once c.args.x.now c.put_bit.new.x c.put_bit-in-Cx.new.x _ _ _ c.put_bit.ensures.put (c.put_bit-in-Cx.ensures.put ∙ ap (λ z. with_bit z c.in-Cx.t c.bit_at-was.result) c.amplitude_of-entry.ensures.kept) c.bit_at-was.ensures.bit

pub returns-then-are_same-clause-entry : goal.returns-then-are_same-clause-entry
unfolding unit nought
returns-then-are_same-clause-entry t c = entry-none c.args.ops.now c.args.x.now c.args.y.now true c.in-empty.len_below (sym c.if-are_same.true ∙ c.are_same.ensures.same)

pub returns-else-are_same-clause-entry : goal.returns-else-are_same-clause-entry
unfolding unit nought
returns-else-are_same-clause-entry t c = entry-none c.args.ops.now c.args.x.now c.args.y.now false c.in-empty.len_below (sym c.if-are_same.false ∙ c.are_same.ensures.same)
