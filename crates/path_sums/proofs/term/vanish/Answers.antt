use Rattle.std.proofs.Common.{◌≡◌, ◌↔◌, List, [], drop, map, ap, arith}
use Rattle.std.specs.Prelude.{IsTrue}
use Rattle.std.proofs.Math.ListN.{drop_of_length-le}
use Rattle.std.proofs.lemmas.Result.{IfOk-weaker}
use Rattle.path_parity.specs.PathFunctions.{Vanishes, phase}
use Rattle.path_sums.specs.declared.term.Term.{Term}
use Rattle.path_sums.specs.Gathering.{IsSamePhase}
use Rattle.path_sums.specs.Terms.{term_of}
use Rattle.path_sums.proofs.TermLaws.{carried, carried_back}
use Rattle.path_sums.proofs.term.vanish.Goals as goal

pub returns : goal.returns
returns c =
    let ts : List Term = c.args.terms.now in
    let us : List Term = c.in_ok-listed.field-0.items in
    let end : drop c.terms.term-index ts ≡ [] = drop_of_length-le ts c.terms-test.false in
    let same : IsSamePhase (map term_of us) (map term_of ts) = λ v.
    let none = ap (λ xs. phase (map term_of xs) v) end in
    omega (arith, c.in_ok-listed.ensures.same v, c.terms.invariant.same v, none) in
    record {
      exact = IfOk-weaker c.cancel.result (λ b. IsTrue b ↔ Vanishes (map term_of us)) (λ b. IsTrue b ↔ Vanishes (map term_of ts))
          (λ b h. (λ t. carried (map term_of us) (map term_of ts) same (h.0 t), λ z. h.1 (carried_back (map term_of us) (map term_of ts) same z)))
          c.cancel.ensures.exact;
    }
