-- A wire that is there has a place.
use Rattle.std.proofs.Common.{◌≡◌, ◌∙◌, arith}
use Rattle.std.specs.Prelude.{unwrap_or}
use Rattle.path_sums.specs.Names.{place_in}
use Rattle.path_sums.proofs.TouchedLaws.{placed, place-of}
use Rattle.path_sums.proofs.touched.place_in.Goals as goal

pub returns : goal.returns
returns c =
    let wires = c.args.touched.now.keys in
    let place : c.unwrap_or.result ≡ place_in wires c.args.q =
    c.unwrap_or.ensures ∙ (λ i. unwrap_or (c.get_index_of.ensures.index i) (c.len.ensures.len i)) ∙ place-of wires c.args.q in
    record {
      place = place;
      within = omega (arith, place, (placed wires c.args.q c.requires).within);
    }
