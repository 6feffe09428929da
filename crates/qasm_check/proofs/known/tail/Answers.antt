use Rattle.std.proofs.Common.{ℕ, ◌+◌, ◌*◌, ◌%◌, ◌^◌, ap, sym, ◌∙◌, get_or, take, fold}
use Rattle.std.proofs.lemmas.List.Sums.{fold_more}
use Rattle.qasm_check.proofs.StateLaws.{tail_more}
use Rattle.qasm_check.proofs.known.tail.Goals as goal

pub bytes-preserved : goal.bytes-preserved
bytes-preserved c =
    let name = c.args.name.now in
    let i = c.bytes.byte-index in
    let digits = λ (sum : ℕ) (byte : ℕ). sum * 256 + byte in
    ap (λ n. (n * 256 % 2 ^ 64 + c.from.result) % 2 ^ 64) c.bytes.invariant
    ∙ ap (λ b. (fold digits 0 (take i name) % 2 ^ 64 * 256 % 2 ^ 64 + b) % 2 ^ 64) c.from.ensures
    ∙ tail_more (2 ^ 64) (fold digits 0 (take i name)) (get_or name i 0)
    ∙ ap (λ n. n % 2 ^ 64) (sym (fold_more digits 0 name i 0 c.bytes-test.true))
