use Rattle.std.proofs.Common.{◌≡◌, ◌∙◌, ℕ, ◌+◌, ◌<◌, List, ◌∷◌, length, take, drop, sym, ap, subst}
use Rattle.std.proofs.lemmas.List.{take_rest}
use Rattle.trace_text.specs.Texts.{lines_of}
use Rattle.trace_text.proofs.LineLaws.{lines-broken}
use Rattle.trace_text.proofs.lines.first_line.Goals as goal

pub returns-then-size-text-clause-lines : goal.returns-then-size-text-clause-lines
returns-then-size-text-clause-lines c =
    let t : List ℕ = c.args.text.now in
    let k : ℕ = c.line_len-size.result in
    let e = c.line_len-size.ensures.value in
    subst (λ m. lines_of t ≡ take m t ∷ lines_of (drop (m + 1) t)) (sym e) (lines-broken t (subst (λ m. m < length t) e c.if-size-text.true))
    ∙ ap (λ d. take k t ∷ lines_of d) (sym (take_rest t (k + 1)))
