-- The total was taken, and written if it isn't 0.
use Rattle.std.proofs.Common.{◌≡◌, ℕ, ◌-◌, ◌%◌, ◌<◌, ◌≤◌, Bool, true, false, cond, ◌∷◌, [], ◌++◌, sym, ◌∙◌, ap, arith}
use Rattle.std.specs.Prelude.{nat_eq}
use Rattle.std.proofs.lemmas.Bool.Decides.{nat_tests}
use Rattle.circuit_list.specs.declared.Gate.TheVariants.{P}
use Rattle.path_parity.specs.PathSum.{PathLabel, label}
use Rattle.rotation_merge.specs.Merging.{constant_phase, kept_constant, kept_phase, signed_phase}
use Rattle.rotation_merge.specs.Sums.{total_in}
use Rattle.rotation_merge.proofs.totals.Totals.write_phase.Goals as goal

some : (t : ℕ) → (t ≡ 0 → ⊥) → nat_eq t 0 ≡ false
some t ne = grind (arith, nat_tests)

phase-some : (l : PathLabel) (t q : ℕ) → (t ≡ 0 → ⊥) → kept_phase l t q ≡ P (signed_phase l t) q ∷ []
phase-some l t q ne = ap (λ b. cond b [] (P (signed_phase l t) q ∷ [])) (some t ne)

constant-some : (l : PathLabel) (t : ℕ) → (t ≡ 0 → ⊥) → kept_constant l t ≡ constant_phase l (signed_phase l t)
constant-some l t ne = ap (λ b. cond b 0 (constant_phase l (signed_phase l t))) (some t ne)

small : (b : Bool) (t : ℕ) → t < 8 → cond b (cond b (8 - t) t) 0 ≤ 8
small true t l = omega arith
small false t l = omega arith

pub returns-clause-gates : goal.returns-clause-gates
returns-clause-gates c = λ row m there.
    let a = c.args.written.now.gates in
    let q = c.args.q in
    let l : PathLabel = label m c.args.note.bit in
    let t : ℕ = c.total-total.result % 8 in
    c.in_ok-push.ensures.gates ∙ ap (λ k. a ++ P k q ∷ []) c.signed-k.ensures ∙ ap (λ us. a ++ us) (sym (phase-some l t q c.if-total-eq0.false))
    ∙ ap (λ n. a ++ kept_phase l (n % 8) q) (c.total-total.ensures.total row there)

pub returns-clause-total : goal.returns-clause-total
returns-clause-total c = λ row there. let h = c.put.ensures.total row there in record { here = h.here; others = h.others }

pub returns-clause-constant : goal.returns-clause-constant
returns-clause-constant c = λ row m there.
    let l : PathLabel = label m c.args.note.bit in
    let t : ℕ = c.total-total.result % 8 in
    let part : c.constant_part.result ≡ constant_phase l (signed_phase l t) = c.constant_part.ensures ∙ ap (constant_phase l) c.signed-k.ensures in
    let same : kept_constant l (total_in c.args.self.now row % 8) ≡ c.constant_part.result =
    sym (ap (λ n. kept_constant l (n % 8)) (c.total-total.ensures.total row there)) ∙ constant-some l t c.if-total-eq0.false ∙ sym part in
    let most : constant_phase l (signed_phase l t) ≤ 8 = small c.args.note.bit t (omega arith) in
    omega (arith, part, same, most, c.put.ensures.constant)
