use Rattle.std.proofs.Common.{◌≡◌, ℕ, ◌+◌, List, [], ◌∷◌, ◌++◌, Some, get_or, ap, sym, subst, ◌∙◌, length, take, arith}
use Rattle.std.specs.List.{position}
use Rattle.std.specs.Str.{bytes_eq}
use Rattle.std.proofs.lemmas.List.{length-take, take_more}
use Rattle.qasm_check.specs.State.{found}
use Rattle.qasm_check.proofs.IndexLaws.{index_added, index_kept}
use Rattle.qasm_check.proofs.StateLaws.{found-updates}
use Rattle.qasm_check.proofs.indices.first_indices.Goals.{then-not-contains_key+in_ok-insert, else-not-contains_key}
use Rattle.qasm_check.proofs.indices.first_indices.Goals as goal

pub names-preserved : goal.names-preserved
names-preserved c = λ name.
    let xs = c.args.names.now in
    let i = c.names.i in
    let x = c.as_bytes-name.result.now in
    let is : x ≡ get_or xs i c.index-names-i.result = c.as_bytes-name.ensures.value ∙ c.index-names-i.is in
    let before : List (List ℕ) = take i xs in
    let more : take (i + 1) xs ≡ before ++ x ∷ [] = take_more xs i c.index-names-i.result c.names-test.true ∙ ap (λ (y : List ℕ). before ++ y ∷ []) (sym is) in
    let size : length before ≡ i = omega (arith, length-take i xs) in
    subst (λ (ns : List (List ℕ)). found c.if-not-contains_key.first name ≡ position (λ y. bytes_eq name y) ns) (sym more) (
    elim c.if-not-contains_key.branch [
      | then-not-contains_key+in_ok-insert w ↦
          ap (λ m. found m name) w.first-is ∙ index_added before i x name _ _ _ size (c.names.invariant name) (c.names.invariant x)
          (sym c.contains_key.ensures ∙ w.if-not-contains_key.true)
          (found-updates x c.names.first w.insert.new.self (Some i) w.in_ok-insert.ensures.updates name)
      | else-not-contains_key w ↦
          ap (λ m. found m name) w.first-is ∙ index_kept before x name _ _ (c.names.invariant name) (c.names.invariant x)
          (sym c.contains_key.ensures ∙ w.if-not-contains_key.false)
    ])
