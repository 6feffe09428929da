use Rattle.std.proofs.Common.{◌∙◌, ap, map, refl, sym, subst}
use Rattle.std.specs.Global.{Vec}
use Rattle.std.specs.Prelude.{vec_len}
use Rattle.std.proofs.lemmas.List.{nil_from_length}
use Rattle.std.proofs.lemmas.Bool.{eqb-true}
use Rattle.path_sums.specs.declared.term.Term.{Term}
use Rattle.path_sums.specs.Gathering.{IsSamePhase, with_half}
use Rattle.path_sums.specs.Terms.{term_of}
use Rattle.path_sums.proofs.TermLaws.{listed-none, listed-some}
use Rattle.path_sums.proofs.term.listed.Goals as goal
use Rattle.path_sums.proofs.term.listed.Goals.{then-not-is_empty+in_ok-push, else-not-is_empty}

pub returns-clause-same : goal.returns-clause-same
returns-clause-same c =
    let ts = c.args.gathered.terms.items in
    let half = c.args.gathered.half in
    elim c.if-not-is_empty.branch [
      | then-not-is_empty+in_ok-push w ↦ listed-some ts c.if-not-is_empty.terms.items _ half.items (ap (λ (v : Vec Term). v.items) w.terms-is ∙ w.in_ok-push.ensures.items) refl refl
      | else-not-is_empty w ↦ subst (λ us. IsSamePhase (map term_of us) (with_half ts half.items)) (sym (ap (λ (v : Vec Term). v.items) w.terms-is))
          (listed-none ts half.items (nil_from_length half.items (sym half.ok.0 ∙ eqb-true (vec_len half) 0 (sym c.is_empty.ensures ∙ w.if-not-is_empty.false))))
    ]
