use denote.Ref.{Bor}
use Rattle.std.proofs.Common.{ℕ, List, ◌∙◌}
use Rattle.std.specs.Str.{bytes_eq}
use Rattle.gate_library.proofs.ListLaws.{position-map}
use Rattle.gate_library.proofs.library.index_in.Goals as goal

pub returns-clause-value : goal.returns-clause-value
returns-clause-value c = c.first_same.ensures.value ∙ position-map (λ y. bytes_eq c.args.name.now y) (λ (y : Bor (List ℕ)). y.now) c.args.names.now
