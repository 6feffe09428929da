use Rattle.std.proofs.Common.{ap, ◌∙◌}
use Rattle.std.specs.Prelude.{is_some}
use Rattle.std.specs.Str.{bytes_eq}
use Rattle.gate_library.proofs.ListLaws.{is_some-position}
use Rattle.qasm_check.proofs.indices.Indices.has.Goals as goal

pub returns : goal.returns
returns c = record {
  value = c.is_some.ensures ∙ ap is_some c.position.ensures ∙ is_some-position (λ y. bytes_eq c.args.name.now y) c.args.self.now;
}
