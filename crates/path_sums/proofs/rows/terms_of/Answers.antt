use Rattle.std.proofs.Common.{◌≡◌, ℕ, ◌+◌, ◌<◌, All, List, Vec, cond, drop, map, arith, ap, sym, subst, ◌∙◌, true≢false}
use Rattle.std.specs.declared.alloc.Global.{Global}
use Rattle.unitary_model.specs.Acts.{Bits}
use Rattle.path_parity.specs.PathFunctions.{parity, phase}
use Rattle.path_sums.specs.Terms.{IsTerm, term_of}
use Rattle.path_sums.specs.Sums.{IsCompact, compact_set, sums_of}
use Rattle.path_sums.proofs.RowLaws.{row-compact, rows-more}
use Rattle.path_sums.proofs.rows.terms_of.Goals as goal
use Rattle.path_sums.proofs.rows.terms_of.Goals.{in-Some+in_ok-push_term, in_default}

pub push_term-requires-clause-row : goal.push_term-requires-clause-row
push_term-requires-clause-row c =
    subst IsCompact (sym c.deref.ensures.value) (row-compact c.args.sets.now.entries c.sets.index (c.in-Some.row.now, c.in-Some.total.now) c.requires (sym c.in-Some.ensures.entry))

pub sets-preserved : goal.sets-preserved
sets-preserved c = elim c.match-get_index.branch [
  | in-Some+in_ok-push_term w ↦
      let es = c.args.sets.now.entries in
      let entry : Vec ℕ Global × ℕ = (w.in-Some.row.now, w.in-Some.total.now) in
      record {
        same = λ u. subst (λ (ts : Vec _ Global). phase (map term_of ts.items) u + phase (sums_of (drop (c.sets.index + 1) es)) u ≡ phase (sums_of es) u) (sym w.terms-is)
            (rows-more es c.sets.index entry c.sets.terms.items w.push_term.new.terms.items (phase (sums_of es) u) u (sym w.in-Some.ensures.entry)
            (w.in_ok-push_term.ensures.adds u ∙ (λ i. phase (map term_of c.sets.terms.items) u + cond (parity u (compact_set (w.deref.ensures.value i))) w.in-Some.total.now 0))
            (c.sets.invariant.same u));
        terms = subst (λ (ts : Vec _ Global). All IsTerm ts.items) (sym w.terms-is) w.in_ok-push_term.ensures.terms;
      }
  | in_default w ↦ absurd (true≢false (sym (w.in_default.ensures.found.1 (omega (arith, c.sets-test.true, c.len-index-end.ensures.len)))))
]
