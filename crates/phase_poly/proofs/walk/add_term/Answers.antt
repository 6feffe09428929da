use Rattle.std.proofs.Common.{◌≡◌, ◌+◌, ◌%◌, ◌<◌, List, All, nat_eq, subst, sym, ◌∙◌, ap, arith}
use Rattle.std.specs.Prelude.{unwrap_or}
use Rattle.std.specs.Map.{lookup}
use Rattle.std.proofs.lemmas.Grind.{common_steps}
use Rattle.indexmap.specs.IndexMap.{insert_entry}
use Rattle.phase_poly.specs.Polys.{Term, with_term}
use Rattle.phase_poly.proofs.TermLaws.{insert-with, below-with}
use Rattle.phase_poly.proofs.walk.add_term.Goals as goal

pub returns-clause-terms : goal.returns-clause-terms
returns-clause-terms c =
    let had : c.unwrap_or-had.result ≡ unwrap_or (lookup (nat_eq c.args.row) c.args.terms.now.entries) 0 = grind (arith, common_steps) in
    c.in_ok-insert.ensures.entries
    ∙ ap (λ z. insert_entry nat_eq c.args.terms.now.entries c.args.row ((z % 8 + c.args.k) % 8)) had
    ∙ insert-with c.args.row c.args.k c.args.terms.now.entries c.requires.k

pub returns-clause-below : goal.returns-clause-below
returns-clause-below c =
    let had : c.unwrap_or-had.result ≡ unwrap_or (lookup (nat_eq c.args.row) c.args.terms.now.entries) 0 = grind (arith, common_steps) in
    let terms : c.insert.new.self.entries ≡ with_term c.args.row c.args.k c.args.terms.now.entries =
    c.in_ok-insert.ensures.entries
    ∙ ap (λ z. insert_entry nat_eq c.args.terms.now.entries c.args.row ((z % 8 + c.args.k) % 8)) had
    ∙ insert-with c.args.row c.args.k c.args.terms.now.entries c.requires.k in
    subst (λ (ts : List Term). All (λ e. e.1 < 8) ts) (sym terms) (below-with c.args.row c.args.k c.args.terms.now.entries c.requires.k c.requires.below)
