-- The place of a name, or the place behind all.
use Rattle.std.proofs.Common.{◌≡◌, ◌∙◌, arith}
use Rattle.std.specs.Prelude.{nat_eq, unwrap_or}
use Rattle.std.specs.List.{position_or_len}
use Rattle.path_sums.proofs.TouchedLaws.{place-of}
use Rattle.path_sums.proofs.names.number.Goals as goal

pub returns-in-Some : goal.returns-in-Some
returns-in-Some c =
    let names = c.args.names.now.keys in
    let place : c.unwrap_or-place.result ≡ position_or_len (nat_eq c.args.variable) names =
    c.unwrap_or-place.ensures ∙ (λ i. unwrap_or (c.get_index_of.ensures.index i) (c.len.ensures.len i)) ∙ place-of names c.args.variable in
    omega (arith, place, c.in-Some.ensures)
