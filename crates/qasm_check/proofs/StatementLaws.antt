-- Statements of the code and their trees.
--   statement-Gate, statement-Opaque   a gate's body is spelt statement by statement
use Rattle.std.proofs.Common.{◌≡◌, ◌∷◌, refl, ap, ◌∙◌, map}
use mathlib.Core.Former.{Count}
use Rattle.qasm_parser.specs.declared.tree.GateDef.{GateDef}
use Rattle.qasm_parser.specs.declared.tree.Stmt.{Stmt, Gate, Gate', Opaque, Opaque', Row_of-Stmt, end_of-Stmt, more_of-Stmt, items-the_row-Stmt, items_hidden-the_row-Stmt-0}
use Rattle.qasm_parser.specs.Tree.{action, actions, gate, opaque, statement}
use Rattle.qasm_check.specs.Bodies.{declaration}

actions-items : (m : _) (row : Row_of-Stmt m) → actions row ≡ map action (items-the_row-Stmt m row)
actions-items m end_of-Stmt = refl
actions-items m (more_of-Stmt s rest) = ap (λ xs. action s ∷ xs) (actions-items _ rest)

abbrev row_of : Stmt → (n : Count) × Row_of-Stmt n
row_of (Gate' name params qubits shape body) = (_, body)
row_of (Opaque' name params qubits shape body) = (_, body)
row_of _ = (_, end_of-Stmt)

pub statement-Gate : (d : GateDef) → statement (Gate d) ≡ gate (declaration d)
statement-Gate d = let row = row_of (Gate d) in
    ap (λ body. gate (record (declaration d) { body = body }))
    (actions-items row.0 row.1 ∙ ap (map action) (items_hidden-the_row-Stmt-0 d.body))

pub statement-Opaque : (d : GateDef) → statement (Opaque d) ≡ opaque (declaration d)
statement-Opaque d = let row = row_of (Opaque d) in
    ap (λ body. opaque (record (declaration d) { body = body }))
    (actions-items row.0 row.1 ∙ ap (map action) (items_hidden-the_row-Stmt-0 d.body))

pub ruleset statements = (statement-Gate, statement-Opaque)
