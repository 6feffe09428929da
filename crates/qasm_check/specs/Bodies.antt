-- Working form. Declarations of gates, as the code has them.
--   declaration   the tree of a declaration
--   flaws_of      what is wrong with an item of a body
--   either_flaw   what is wrong with one thing or another
--   HasFlaws      what is wrong with a body
use Rattle.std.specs.Prelude.{◌≡◌, ℕ, ◌||◌, List, map}
use Rattle.std.specs.List.{list_any}
use Rattle.qasm_parser.specs.Tree.{Action, Definition, action, definition}
use Rattle.qasm_parser.specs.declared.tree.GateDef.{GateDef}
use Rattle.qasm_check.specs.Known.{Known, meaning}
use Rattle.qasm_check.specs.Meanings.{names_register}
use Rattle.qasm_check.specs.Refusals.{applies_opaque, in_body, params_differ, qubits_differ, repeats_name, unknown_in_body}
use Rattle.qasm_check.specs.declared.body.BodyFlaws.{BodyFlaws}

abbrev pub declaration : GateDef → Definition
declaration d = definition d.name d.params.items d.qubits.items (map action d.body.items)

-- of one item
abbrev pub flaws_of : Known → List (List ℕ) → List (List ℕ) → Action → BodyFlaws
flaws_of k params qubits a = record {
  unknown = unknown_in_body k params qubits a;
  register = in_body (λ a. names_register (meaning k a.gate)) a;
  params = in_body (params_differ k) a;
  qubits = in_body (qubits_differ k) a;
  repeated = in_body repeats_name a;
  opaque = in_body (applies_opaque k) a;
}

-- of one or another
abbrev pub either_flaw : BodyFlaws → BodyFlaws → BodyFlaws
either_flaw f g = record {
  unknown = f.unknown || g.unknown;
  register = f.register || g.register;
  params = f.params || g.params;
  qubits = f.qubits || g.qubits;
  repeated = f.repeated || g.repeated;
  opaque = f.opaque || g.opaque;
}

-- of a body
pub record HasFlaws (k : Known) (ps qs : List (List ℕ)) (body : List Action) (f : BodyFlaws) : Type 0 where
  pub unknown : f.unknown ≡ list_any (unknown_in_body k ps qs) body
  pub register : f.register ≡ list_any (in_body (λ a. names_register (meaning k a.gate))) body
  pub params : f.params ≡ list_any (in_body (params_differ k)) body
  pub qubits : f.qubits ≡ list_any (in_body (qubits_differ k)) body
  pub repeated : f.repeated ≡ list_any (in_body repeats_name) body
  pub opaque : f.opaque ≡ list_any (in_body (applies_opaque k)) body
