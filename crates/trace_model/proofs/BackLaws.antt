-- What the lines of the second edition can tell.
--     backwards           steps that lead from some gates to those that are held are told backwards by `goal` and `meet`
--     whole_part          `part` of all gates is `sums`
use Rattle.std.proofs.Common.{◌≡◌, ℕ, ◌+◌, ◌-◌, ◌%◌, ◌^◌, ◌<◌, ◌≤◌, List, [], ◌∷◌, ◌++◌, All, length, take, drop, map, refl, sym, subst, ◌∙◌, ap, arith, append-nil}
use Rattle.std.specs.List.{AllByRecursion}
use Rattle.std.proofs.Math.Seq.{take-length}
use Rattle.std.proofs.Math.ListN.{drop_of_length-le}
use Rattle.std.proofs.lemmas.List.Elements.{All-from_recursion}
use Rattle.circuit_list.specs.declared.Gate.{Gate}
use Rattle.circuit_list.specs.Gates.{IsFine}
use Rattle.path_parity.specs.NamedSums.{SamePathSum}
use Rattle.rewrite_pass.specs.Traces.{Step, Sums, AreSteps, constants_turn}
use Rattle.trace_model.specs.Lines.{Rewrite, Part, Goal, Meet, IsSmall}
use Rattle.trace_model.specs.Proves.{Changes, Claim, Runs, Sought, Rewritten, Seeking, slice_of}

-- ---- steps backwards
meets : (e : Claim) (v : ℕ) → 2 ≤ v → (s : Sought) (ss : List Step) (t u : ℕ) (behind : List (List ℕ)) → s.since < 8 → AreSteps e.wires s.gates ss s.held t → AllByRecursion (λ x. IsSmall (Rewrite x)) ss → u ≡ (s.since + t) % 8 →
    Runs e v (Seeking s) (map (λ x. Rewrite x) ss ++ Meet ∷ []) behind (Rewritten s.goal ((s.turn + (8 - u)) % 8))
meets e v two s [] t u behind lt h small w =
    let same : u ≡ s.since = omega (arith, lt, h.1, w) in
    (Rewritten s.goal ((s.turn + (8 - s.since)) % 8), ((All-from_recursion (λ k. k < 2 ^ 32) [] tt, two), (record { met = sym h.0; after = refl }, (λ z. Rewritten s.goal ((s.turn + (8 - same z)) % 8)))))
meets e v two s (x ∷ ss) t u behind lt h small w =
    let m = h.0 in
    let n : Sought = record s { gates = m.gates; since = (s.since + m.first) % 8 } in (
      Seeking n,
      (
        (small.0, tt),
        (
          record { gates = m.gates; turn = m.first; step = h.1.0; after = refl },
          meets e v two n ss m.rest u behind (omega arith) h.1.1.0 small.1 (sums s.since m.first m.rest t u h.1.1.1 w),
        ),
      ),
    )
  where
    sums : (a b c t u : ℕ) → t ≡ (b + c) % 8 → u ≡ (a + t) % 8 → u ≡ ((a + b) % 8 + c) % 8
    sums a b c t u e f = omega arith

-- the gates `goal` are led to by the steps; so the held ones lead to these, and the turn is taken back
pub backwards : (e : Claim) (held goal : List Gate) (j t : ℕ) (ss : List Step) (behind : List (List ℕ)) → All (IsFine e.wires) goal → AreSteps e.wires goal ss held t → t < 8
    → IsSmall (Goal goal) → AllByRecursion (λ x. IsSmall (Rewrite x)) ss → Runs e 2 (Rewritten held j) (Goal goal ∷ (map (λ x. Rewrite x) ss ++ Meet ∷ [])) behind (Rewritten goal ((j + (8 - t)) % 8))
backwards e held goal j t ss behind fine h lt first small =
    let s : Sought = record { held = held; turn = j; goal = goal; gates = goal; since = 0 } in
    (Seeking s, ((first, omega arith), (record { fine = fine; after = refl }, meets e 2 (omega arith) s ss t t behind (omega arith) h small (omega (arith, lt)))))

-- ---- a part that is all
all_of : (gs : List Gate) → slice_of gs 0 (length gs) ≡ gs
all_of gs = ap (λ m. take m gs) (less (length gs)) ∙ take-length gs
  where
    less : (n : ℕ) → n - 0 ≡ n
    less n = omega arith

nothing_left : (gs : List Gate) → drop (length gs) gs ≡ []
nothing_left gs = drop_of_length-le gs (omega arith)

pub whole_part : (n : ℕ) (old gates new : List Gate) (t : ℕ) → Changes n old (Part 0 (length old) gates) new t → Changes n old (Rewrite (Sums gates)) new t
whole_part n old gates new t h = record {
  fine = h.fine;
  same = subst (λ gs. SamePathSum n gs gates) (all_of old) h.same;
  becomes = h.becomes ∙ ap (λ r. gates ++ r) (nothing_left old) ∙ append-nil gates;
  turn = h.turn ∙ ap (λ gs. constants_turn n gs gates) (all_of old);
}

pub part_whole : (n : ℕ) (old gates new : List Gate) (t : ℕ) → Changes n old (Rewrite (Sums gates)) new t → Changes n old (Part 0 (length old) gates) new t
part_whole n old gates new t h = record {
  ordered = omega arith;
  within = omega arith;
  fine = h.fine;
  same = subst (λ gs. SamePathSum n gs gates) (sym (all_of old)) h.same;
  becomes = h.becomes ∙ sym (append-nil gates) ∙ ap (λ r. gates ++ r) (sym (nothing_left old));
  turn = h.turn ∙ ap (λ gs. constants_turn n gs gates) (sym (all_of old));
}
