use Rattle.std.proofs.Common.{◌%◌, ◌∙◌, nat_eq, sym, ap}
use Rattle.std.proofs.lemmas.Nat.Bits.{shr_and_one}
use Rattle.path_sums.specs.declared.words.Word.{Word}
use Rattle.path_sums.proofs.WordLaws.{bit-here, bit-further}
use Rattle.path_sums.proofs.words.has.Goals as goal

pub returns-then-set-index : goal.returns-then-set-index
returns-then-set-index c =
    let d : Word = record { place = 0; bits = 0 } in
    ap (λ k. nat_eq k 1)
    (shr_and_one _ (c.args.variable % 64)
    ∙ sym (bit-here c.args.set.now c.words.index d c.args.variable c.requires c.words-test.true c.if-set-index.true)
    ∙ c.words.invariant)

pub words-preserved : goal.words-preserved
words-preserved c = sym (bit-further c.args.set.now c.words.index (record { place = 0; bits = 0 }) c.args.variable c.requires c.words-test.true c.if-set-index.false) ∙ c.words.invariant
