-- From variables that are numbered as they come up to those of path sums, and back.
--     Carries r p f vs        the map f takes each variable of vs, as r has it, to what p has for it
--     carried_last, carried_sets, carried_terms, carried_constant     two walks side by side, by r and by p
--     same-carried, function-carried  what is the same by r is so by p, path sums and phases as functions
--     same-named, named-same, function-named, named-function  by the names themselves it is that of the definition
use Rattle.std.proofs.Common.{◌≡◌, ℕ, ◌+◌, ◌-◌, ◌%◌, ◌^◌, ◌<◌, Bool, true, false, cond, List, [], ◌∷◌, ◌++◌, Some, length, refl, sym, ◌∙◌, ap, arith}
use Rattle.std.specs.Prelude.{nat_eq}
use Rattle.std.specs.Option.{option_map}
use Rattle.unitary_model.specs.Acts.{Bits}
use Rattle.circuit_list.specs.declared.Gate.{Gate}
use Rattle.circuit_list.specs.declared.Gate.TheVariants.{H, X, P, Cx}
use Rattle.path_parity.specs.PathFunctions.{parity, phase, SamePathFunction}
use Rattle.path_parity.specs.PathSum.{PathLabel, label, xor, Wires, with_label, add_labels, flipped, fresh, own_labels}
use Rattle.path_parity.specs.OddLabels.{IsLinear}
use Rattle.path_parity.specs.NamedSums.{Seen, constant, constant_at, hadamard, hadamards, named_after, named_last, next_variable, seen_after, set_before, term, terms, total, unseen, SamePathSum}
use Rattle.path_parity.proofs.NumberedLaws.{Renames, mapped, total-mapped}
use Rattle.path_parity.proofs.Totals.{by_totals}
use Rattle.path_sums.specs.Names.{SameBy, SameFunctionBy, after_by, constant_by, hadamards_by, last_by, term_by, terms_by, variable, variables_of}

abbrev pub Carries : (ℕ → ℕ) → (ℕ → ℕ) → (ℕ → ℕ) → List ℕ → Type 0
Carries r p f [] = Unit {0}
Carries r p f (v ∷ vs) = (f (2 ^ r v) ≡ 2 ^ p v) × Carries r p f vs

abbrev pub sets_mapped : (ℕ → ℕ) → List (ℕ × ℕ) → List (ℕ × ℕ)
sets_mapped f [] = []
sets_mapped f (h ∷ hs) = (h.0, f h.1) ∷ sets_mapped f hs

set_before-mapped : (v : ℕ) (f : ℕ → ℕ) (hs : List (ℕ × ℕ)) → set_before v (sets_mapped f hs) ≡ option_map f (set_before v hs)
set_before-mapped v f [] = refl
set_before-mapped v f (h ∷ hs) = go (nat_eq h.0 v) (set_before-mapped v f hs)
  where
    go : (b : Bool) → set_before v (sets_mapped f hs) ≡ option_map f (set_before v hs) → cond b (Some (f h.1)) (set_before v (sets_mapped f hs)) ≡ option_map f (cond b (Some h.1) (set_before v hs))
    go true e = refl
    go false e = e

module _ (n : ℕ) (r p f : ℕ → ℕ) (lin : IsLinear f) where
  with-carried : (w v : Wires) (q : ℕ) (l k : PathLabel) → Renames f w v → k ≡ label (f l.variables) l.bit → Renames f (with_label w q l) (with_label v q k)
  with-carried w v q l k h e = record { at = λ x. go (nat_eq x q) x }
    where
      go : (b : Bool) (x : ℕ) → cond b k (v x) ≡ label (f (cond b l (w x)).variables) (cond b l (w x)).bit
      go true x = e
      go false x = h.at x

  -- ---- one gate
  after-carried : (g : Gate) (vs : List ℕ) (w v : Wires) (s : Seen) → Carries r p f (variable n g s ++ vs) → Renames f w v → Renames f (after_by n r g w s) (after_by n p g v s)
  after-carried (H q) vs w v s c h = with-carried w v q (fresh (r (next_variable n s q))) (fresh (p (next_variable n s q))) h (ap (λ m. label m false) (sym c.0))
  after-carried (X q) vs w v s c h = with-carried w v q (flipped (w q)) (flipped (v q)) h (ap flipped (h.at q))
  after-carried (P k q) vs w v s c h = h
  after-carried (Cx a t) vs w v s c h = with-carried w v t (add_labels (w t) (w a)) (add_labels (v t) (v a)) h
      ((λ i. add_labels (h.at t i) (h.at a i)) ∙ ap (λ m. label m (xor (w t).bit (w a).bit)) (sym (lin (w t).variables (w a).variables)))

  rest-carried : (g : Gate) (vs : List ℕ) (s : Seen) → Carries r p f (variable n g s ++ vs) → Carries r p f vs
  rest-carried (H q) vs s c = c.1
  rest-carried (X q) vs s c = c
  rest-carried (P k q) vs s c = c
  rest-carried (Cx a t) vs s c = c

  set-carried : (g : Gate) (w v : Wires) (s : Seen) (hs ks : List (ℕ × ℕ)) → Renames f w v → ks ≡ sets_mapped f hs → hadamard n g v s ++ ks ≡ sets_mapped f (hadamard n g w s ++ hs)
  set-carried (H q) w v s hs ks h e = λ i. (next_variable n s q, (h.at q i).variables) ∷ e i
  set-carried (X q) w v s hs ks h e = e
  set-carried (P k q) w v s hs ks h e = e
  set-carried (Cx a t) w v s hs ks h e = e

  term-carried : (g : Gate) (vs : List ℕ) (w v : Wires) (s : Seen) (es ks : List (ℕ × ℕ)) → Carries r p f (variable n g s ++ vs) → Renames f w v → ks ≡ mapped f es → term_by n p g v s ++ ks ≡ mapped f (term_by n r g w s ++ es)
  term-carried (H q) vs w v s es ks c h e = (λ i. cond (h.at q i).bit ((sym c.0 i, 4) ∷ []) [] ++ e i) ∙ go (w q).bit
    where
      go : (b : Bool) → cond b ((f (2 ^ r (next_variable n s q)), 4) ∷ []) [] ++ mapped f es ≡ mapped f (cond b ((2 ^ r (next_variable n s q), 4) ∷ []) [] ++ es)
      go true = refl
      go false = refl
  term-carried (X q) vs w v s es ks c h e = e
  term-carried (P k q) vs w v s es ks c h e = λ i. ((h.at q i).variables, cond (h.at q i).bit (8 - k) k) ∷ e i
  term-carried (Cx a t) vs w v s es ks c h e = e

  constant_at-carried : (g : Gate) (w v : Wires) → Renames f w v → constant_at g v ≡ constant_at g w
  constant_at-carried (H q) w v h = refl
  constant_at-carried (X q) w v h = refl
  constant_at-carried (P k q) w v h = λ i. cond (h.at q i).bit k 0
  constant_at-carried (Cx a t) w v h = refl

  -- ---- all gates
  carried_last : (gs : List Gate) (w v : Wires) (s : Seen) → Carries r p f (variables_of n gs s) → Renames f w v → Renames f (last_by n r gs w s) (last_by n p gs v s)
  carried_last [] w v s c h = h
  carried_last (g ∷ gs) w v s c h = let vs : List ℕ = variables_of n gs (seen_after g s) in
      carried_last gs (after_by n r g w s) (after_by n p g v s) (seen_after g s) (rest-carried g vs s c) (after-carried g vs w v s c h)

  carried_sets : (gs : List Gate) (w v : Wires) (s : Seen) → Carries r p f (variables_of n gs s) → Renames f w v → hadamards_by n p gs v s ≡ sets_mapped f (hadamards_by n r gs w s)
  carried_sets [] w v s c h = refl
  carried_sets (g ∷ gs) w v s c h = let vs : List ℕ = variables_of n gs (seen_after g s) in
      set-carried g w v s (hadamards_by n r gs (after_by n r g w s) (seen_after g s)) (hadamards_by n p gs (after_by n p g v s) (seen_after g s)) h
      (carried_sets gs (after_by n r g w s) (after_by n p g v s) (seen_after g s) (rest-carried g vs s c) (after-carried g vs w v s c h))

  carried_terms : (gs : List Gate) (w v : Wires) (s : Seen) → Carries r p f (variables_of n gs s) → Renames f w v → terms_by n p gs v s ≡ mapped f (terms_by n r gs w s)
  carried_terms [] w v s c h = refl
  carried_terms (g ∷ gs) w v s c h = let vs : List ℕ = variables_of n gs (seen_after g s) in
      term-carried g vs w v s (terms_by n r gs (after_by n r g w s) (seen_after g s)) (terms_by n p gs (after_by n p g v s) (seen_after g s)) c h
      (carried_terms gs (after_by n r g w s) (after_by n p g v s) (seen_after g s) (rest-carried g vs s c) (after-carried g vs w v s c h))

  pub carried_constant : (gs : List Gate) (w v : Wires) (s : Seen) → Carries r p f (variables_of n gs s) → Renames f w v → constant_by n p gs v s ≡ constant_by n r gs w s
  carried_constant [] w v s c h = refl
  carried_constant (g ∷ gs) w v s c h = let vs : List ℕ = variables_of n gs (seen_after g s) in
      λ i. constant_at-carried g w v h i + carried_constant gs (after_by n r g w s) (after_by n p g v s) (seen_after g s) (rest-carried g vs s c) (after-carried g vs w v s c h) i

  -- ---- two circuits
  sets-carried : (A B : List Gate) → Carries r p f (variables_of n A unseen) → Carries r p f (variables_of n B unseen) → Renames f (own_labels n) (own_labels n) →
      ((v : ℕ) → set_before v (hadamards_by n r B (own_labels n) unseen) ≡ set_before v (hadamards_by n r A (own_labels n) unseen)) →
      (v : ℕ) → set_before v (hadamards_by n p B (own_labels n) unseen) ≡ set_before v (hadamards_by n p A (own_labels n) unseen)
  sets-carried A B a b own same = λ v. ap (set_before v) (carried_sets B w w unseen b own) ∙ set_before-mapped v f (hadamards_by n r B w unseen) ∙ ap (option_map f) (same v)
      ∙ sym (set_before-mapped v f (hadamards_by n r A w unseen)) ∙ sym (ap (set_before v) (carried_sets A w w unseen a own))
    where
      w : Wires
      w = own_labels n

  last-carried : (A B : List Gate) → Carries r p f (variables_of n A unseen) → Carries r p f (variables_of n B unseen) → Renames f (own_labels n) (own_labels n) →
      ((q : ℕ) → q < n → last_by n r B (own_labels n) unseen q ≡ last_by n r A (own_labels n) unseen q) →
      (q : ℕ) → q < n → last_by n p B (own_labels n) unseen q ≡ last_by n p A (own_labels n) unseen q
  last-carried A B a b own same = λ q lt. (carried_last B w w unseen b own).at q ∙ ap (λ (l : PathLabel). label (f l.variables) l.bit) (same q lt) ∙ sym ((carried_last A w w unseen a own).at q)
    where
      w : Wires
      w = own_labels n

  pub same-carried : (A B : List Gate) → Carries r p f (variables_of n A unseen) → Carries r p f (variables_of n B unseen) → Renames f (own_labels n) (own_labels n) → SameBy n r A B → SameBy n p A B
  same-carried A B a b own same = record {
    sets = sets-carried A B a b own same.sets;
    last = last-carried A B a b own same.last;
    totals = λ m. ap (λ es. total m es % 8) (carried_terms B w w unseen b own) ∙ ap (λ k. k % 8) (total-mapped m f (terms_by n r B w unseen))
        ∙ by_totals (length (terms_by n r B w unseen) + length (terms_by n r A w unseen)) (λ k. nat_eq (f k) m) (terms_by n r B w unseen) (terms_by n r A w unseen) (omega arith) same.totals
        ∙ sym (ap (λ k. k % 8) (total-mapped m f (terms_by n r A w unseen))) ∙ sym (ap (λ es. total m es % 8) (carried_terms A w w unseen a own));
  }
    where
      w : Wires
      w = own_labels n

  -- values of the variables as p has them give values as r has them
  pub function-carried : (pull : Bits → Bits) → ((v : Bits) (m : ℕ) → parity v (f m) ≡ parity (pull v) m) → (A B : List Gate) → Carries r p f (variables_of n A unseen) → Carries r p f (variables_of n B unseen) →
      Renames f (own_labels n) (own_labels n) → SameFunctionBy n r A B → SameFunctionBy n p A B
  function-carried pull pulled A B a b own same = record {
    sets = sets-carried A B a b own same.sets;
    last = last-carried A B a b own same.last;
    phases = λ v. ap (λ es. phase es v % 8) (carried_terms B w w unseen b own) ∙ ap (λ k. k % 8) (phase-pulled v (terms_by n r B w unseen))
        ∙ same.phases (pull v)
        ∙ sym (ap (λ k. k % 8) (phase-pulled v (terms_by n r A w unseen))) ∙ sym (ap (λ es. phase es v % 8) (carried_terms A w w unseen a own));
  }
    where
      w : Wires
      w = own_labels n

      phase-pulled : (v : Bits) (es : List (ℕ × ℕ)) → phase (mapped f es) v ≡ phase es (pull v)
      phase-pulled v [] = refl
      phase-pulled v (e ∷ es) = λ i. cond (pulled v e.0 i) e.1 0 + phase-pulled v es i

-- ---- the names themselves
module _ (n : ℕ) where
  after-named : (g : Gate) (w : Wires) (s : Seen) → after_by n (λ v. v) g w s ≡ named_after n g w s
  after-named (H q) w s = refl
  after-named (X q) w s = refl
  after-named (P k q) w s = refl
  after-named (Cx c t) w s = refl

  term-named : (g : Gate) (w : Wires) (s : Seen) → term_by n (λ v. v) g w s ≡ term n g w s
  term-named (H q) w s = refl
  term-named (X q) w s = refl
  term-named (P k q) w s = refl
  term-named (Cx c t) w s = refl

  last-named : (gs : List Gate) (w : Wires) (s : Seen) → last_by n (λ v. v) gs w s ≡ named_last n gs w s
  last-named [] w s = refl
  last-named (g ∷ gs) w s = (λ i. last_by n (λ v. v) gs (after-named g w s i) (seen_after g s)) ∙ last-named gs (named_after n g w s) (seen_after g s)

  sets-named : (gs : List Gate) (w : Wires) (s : Seen) → hadamards_by n (λ v. v) gs w s ≡ hadamards n gs w s
  sets-named [] w s = refl
  sets-named (g ∷ gs) w s = (λ i. hadamard n g w s ++ hadamards_by n (λ v. v) gs (after-named g w s i) (seen_after g s)) ∙ ap (λ hs. hadamard n g w s ++ hs) (sets-named gs (named_after n g w s) (seen_after g s))

  terms-named : (gs : List Gate) (w : Wires) (s : Seen) → terms_by n (λ v. v) gs w s ≡ terms n gs w s
  terms-named [] w s = refl
  terms-named (g ∷ gs) w s = (λ i. term-named g w s i ++ terms_by n (λ v. v) gs (after-named g w s i) (seen_after g s)) ∙ ap (λ es. term n g w s ++ es) (terms-named gs (named_after n g w s) (seen_after g s))

  pub constant-named : (gs : List Gate) (w : Wires) (s : Seen) → constant_by n (λ v. v) gs w s ≡ constant n gs w s
  constant-named [] w s = refl
  constant-named (g ∷ gs) w s = (λ i. constant_at g w + constant_by n (λ v. v) gs (after-named g w s i) (seen_after g s)) ∙ ap (λ k. constant_at g w + k) (constant-named gs (named_after n g w s) (seen_after g s))

  pub same-named : (A B : List Gate) → SameBy n (λ v. v) A B → SamePathSum n A B
  same-named A B same = record {
    sets = λ v. sym (ap (set_before v) (sets-named B w unseen)) ∙ same.sets v ∙ ap (set_before v) (sets-named A w unseen);
    last = λ q lt. sym (λ i. last-named B w unseen i q) ∙ same.last q lt ∙ (λ i. last-named A w unseen i q);
    totals = λ m. sym (ap (λ es. total m es % 8) (terms-named B w unseen)) ∙ same.totals m ∙ ap (λ es. total m es % 8) (terms-named A w unseen);
  }
    where
      w : Wires
      w = own_labels n

  pub named-same : (A B : List Gate) → SamePathSum n A B → SameBy n (λ v. v) A B
  named-same A B same = record {
    sets = λ v. ap (set_before v) (sets-named B w unseen) ∙ same.sets v ∙ sym (ap (set_before v) (sets-named A w unseen));
    last = λ q lt. (λ i. last-named B w unseen i q) ∙ same.last q lt ∙ sym (λ i. last-named A w unseen i q);
    totals = λ m. ap (λ es. total m es % 8) (terms-named B w unseen) ∙ same.totals m ∙ sym (ap (λ es. total m es % 8) (terms-named A w unseen));
  }
    where
      w : Wires
      w = own_labels n

  pub function-named : (A B : List Gate) → SameFunctionBy n (λ v. v) A B → SamePathFunction n A B
  function-named A B same = record {
    sets = λ v. sym (ap (set_before v) (sets-named B w unseen)) ∙ same.sets v ∙ ap (set_before v) (sets-named A w unseen);
    last = λ q lt. sym (λ i. last-named B w unseen i q) ∙ same.last q lt ∙ (λ i. last-named A w unseen i q);
    phases = λ v. sym (ap (λ es. phase es v % 8) (terms-named B w unseen)) ∙ same.phases v ∙ ap (λ es. phase es v % 8) (terms-named A w unseen);
  }
    where
      w : Wires
      w = own_labels n

  pub named-function : (A B : List Gate) → SamePathFunction n A B → SameFunctionBy n (λ v. v) A B
  named-function A B same = record {
    sets = λ v. ap (set_before v) (sets-named B w unseen) ∙ same.sets v ∙ sym (ap (set_before v) (sets-named A w unseen));
    last = λ q lt. (λ i. last-named B w unseen i q) ∙ same.last q lt ∙ sym (λ i. last-named A w unseen i q);
    phases = λ v. ap (λ es. phase es v % 8) (terms-named B w unseen) ∙ same.phases v ∙ sym (ap (λ es. phase es v % 8) (terms-named A w unseen));
  }
    where
      w : Wires
      w = own_labels n
