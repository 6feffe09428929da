use Rattle.phase_poly.specs.Polys.{poly_of}
use Rattle.phase_poly.proofs.MapLaws.{filled, terms_rows}
use Rattle.phase_poly.proofs.laws.filled_terms.Goals as goal

pub returns : goal.returns
returns c = record { filled = λ n gs f i d l. filled n (poly_of n gs).terms (terms_rows n gs f) i d l }
