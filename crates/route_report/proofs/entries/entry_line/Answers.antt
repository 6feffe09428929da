use Rattle.std.proofs.Common.{rules, ◌∷◌, ◌++◌, ◌∙◌, ℤ, List, ℕ, [], SFits, ap}
use Rattle.std.specs.Fmt.{decimal, signed_decimal}
use Rattle.std.proofs.lemmas.Int.{to_z-of_z}
use mir.Syntax.{w128}
use Rattle.route_report.proofs.EntryLaws.{line_joined}
use Rattle.route_report.proofs.entries.entry_line.Goals as goal

pub returns : goal.returns
returns c = record {
  ok =
      let x = c.args.entry.now in
      let fa : SFits w128 x.a = search rules in
      let fb : SFits w128 x.b = search rules in
      let fc : SFits w128 x.c = search rules in
      let fd : SFits w128 x.d = search rules in
      let told : List ℕ → ℤ → List ℕ = λ line z. line ++ (signed_decimal z ++ 32 ∷ []) in
      line_joined (signed_decimal x.a) (signed_decimal x.b) (signed_decimal x.c) (signed_decimal x.d) (decimal x.e)
      _ _ _ _ _ _ _ c.new-line.ensures.items
      (c.in_ok-push_part.ensures ∙ ap (told c.new-line.result.items) (to_z-of_z w128 x.a fa))
      (c.in_ok-push_part-2.ensures ∙ ap (told c.push_part.new.line.items) (to_z-of_z w128 x.b fb))
      (c.in_ok-push_part-3.ensures ∙ ap (told c.push_part-2.new.line.items) (to_z-of_z w128 x.c fc))
      (c.in_ok-push_part-4.ensures ∙ ap (told c.push_part-3.new.line.items) (to_z-of_z w128 x.d fd))
      (c.in_ok-extend_from_slice.ensures.items ∙ ap (λ t. c.push_part-4.new.line.items ++ t) (c.as_bytes.ensures.value ∙ c.format.ensures.text))
      c.in_ok-push.ensures.items;
}
