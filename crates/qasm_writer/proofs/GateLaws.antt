-- The gates of a written tree.
--   IsWritable n u       a plain operation on wires below n, no control its target
--   IsWritable-ops       the gates of a circuit are such operations
--   op_run, ops_run      what the statement of an operation means, and those of several; nothing more is known behind them
--   parts_run            what the statements of parts mean, with others behind them
--   parts-known          nothing more is known behind them
use Rattle.std.proofs.Common.{◌≡◌, ◌≢◌, ℕ, zero, suc, ◌<◌, ◌≤◌, inl, inr, List, [], ◌∷◌, ◌++◌, Option, None, append_assoc, append-nil, refl, sym, subst, ◌∙◌, ap, arith, length, map, fold}
use Rattle.std.specs.Prelude.{codes}
use Rattle.std.specs.List.{AllByRecursion}
use Rattle.std.proofs.lemmas.List.Sums.{fold-append}
use Rattle.unitary_model.specs.declared.Op.{Op}
use Rattle.unitary_model.specs.declared.Op.TheVariants.{U, Cx}
use Rattle.unitary_model.specs.Operations.{IsPlain}
use Rattle.circuit_list.specs.Gates.{IsFine, op_of, ops}
use Rattle.circuit_list.specs.declared.Gate.{Gate}
use Rattle.circuit_list.specs.declared.Gate.TheVariants.{H, X, P, Cx as GateCx}
use Rattle.qasm_parser.specs.Tree.{Statement}
use Rattle.qasm_check.specs.Known.{Known}
use Rattle.qasm_check.specs.Steps.{after}
use Rattle.qasm_writer.specs.Trees.{at, barrier_statement, eighths_angle, op_statement, part_statements}
use Rattle.qasm_writer.proofs.RowLaws.{three_eighths, five_eighths, row_h, row_x, row_cx, row_t, row_s, row_three, row_z, row_five, row_sdg, row_tdg, means_h, means_x, means_cx, means_t, means_s, means_three, means_z, means_five, means_sdg, means_tdg}
use Rattle.qasm_writer.proofs.RunLaws.{Parted, Parted-bar, Parted-front, Parted-run, Run, Run-append, Run-nil}
use Rattle.qasm_writer.proofs.StatementLaws.{IsNamed, IsReady, barrier_fine, barrier_named, one_run, two_run}

abbrev pub IsWritable : ℕ → Op → Type 0
IsWritable n (U a b c i) = IsPlain (U a b c i) × (i < n)
IsWritable n (Cx c t) = (c < n) × ((t < n) × (c ≢ t))

-- one statement, which leaves what is known as it is
abbrev IsRunOf : Known → List ℕ → Op → Type 0
IsRunOf k q u = Run k (op_statement q u ∷ []) (u ∷ []) [] (λ bit. None) × (after k (op_statement q u) ≡ k)

phase_run : (k : Known) (q : List ℕ) (n i c : ℕ) → IsReady k q n → i < n → 1 ≤ c → c < 8 → IsRunOf k q (U 0 0 c i)
phase_run k q n i zero h l low high = absurd (omega arith)
phase_run k q n i (suc zero) h l low high = (one_run k q n i (codes "t") [] [] (U 0 0 1 i) row_t h l (means_t i), refl)
phase_run k q n i (suc (suc zero)) h l low high = (one_run k q n i (codes "s") [] [] (U 0 0 2 i) row_s h l (means_s i), refl)
phase_run k q n i (suc (suc (suc zero))) h l low high =
    (one_run k q n i (codes "u1") (eighths_angle 3 ∷ []) (three_eighths ∷ []) (U 0 0 3 i) row_three h l (means_three i), refl)
phase_run k q n i (suc (suc (suc (suc zero)))) h l low high = (one_run k q n i (codes "z") [] [] (U 0 0 4 i) row_z h l (means_z i), refl)
phase_run k q n i (suc (suc (suc (suc (suc zero))))) h l low high =
    (one_run k q n i (codes "u1") (eighths_angle 5 ∷ []) (five_eighths ∷ []) (U 0 0 5 i) row_five h l (means_five i), refl)
phase_run k q n i (suc (suc (suc (suc (suc (suc zero)))))) h l low high = (one_run k q n i (codes "sdg") [] [] (U 0 0 6 i) row_sdg h l (means_sdg i), refl)
phase_run k q n i (suc (suc (suc (suc (suc (suc (suc zero))))))) h l low high =
    (one_run k q n i (codes "tdg") [] [] (U 0 0 7 i) row_tdg h l (means_tdg i), refl)
phase_run k q n i (suc (suc (suc (suc (suc (suc (suc (suc c)))))))) h l low high = absurd (omega arith)

plain_run : (k : Known) (q : List ℕ) (n a b c i : ℕ) → IsReady k q n → i < n → IsPlain (U a b c i) → IsRunOf k q (U a b c i)
plain_run k q n a b c i h l (inl e) =
    let same : U a b c i ≡ U 2 0 4 i = λ j. U (e.0 j) (e.1 j) (e.2 j) i in
    subst (IsRunOf k q) (sym same) (one_run k q n i (codes "h") [] [] (U 2 0 4 i) row_h h l (means_h i), refl)
plain_run k q n a b c i h l (inr (inl e)) =
    let same : U a b c i ≡ U 4 0 4 i = λ j. U (e.0 j) (e.1 j) (e.2 j) i in
    subst (IsRunOf k q) (sym same) (one_run k q n i (codes "x") [] [] (U 4 0 4 i) row_x h l (means_x i), refl)
plain_run k q n a b c i h l (inr (inr e)) =
    let same : U a b c i ≡ U 0 0 c i = λ j. U (e.0 j) (e.1 j) c i in
    subst (IsRunOf k q) (sym same) (phase_run k q n i c h l e.2 e.3)

pub op_run : (k : Known) (q : List ℕ) (n : ℕ) (u : Op) → IsReady k q n → IsWritable n u → IsRunOf k q u
op_run k q n (U a b c i) h w = plain_run k q n a b c i h w.1 w.0
op_run k q n (Cx c t) h w = (two_run k q n c t (codes "cx") [] [] (Cx c t) row_cx h w.0 w.1.0 w.1.1 (means_cx c t), refl)

pub ops_run : (k : Known) (q : List ℕ) (n : ℕ) (us : List Op) → IsReady k q n → AllByRecursion (IsWritable n) us
    → Run k (map (op_statement q) us) us [] (λ bit. None) × (fold after k (map (op_statement q) us) ≡ k)
ops_run k q n [] h w = (Run-nil k, refl)
ops_run k q n (u ∷ us) h w =
    let here = op_run k q n u h w.0 in
    let later = ops_run k q n us h w.1 in (
      Run-append k (op_statement q u ∷ []) (map (op_statement q) us) (u ∷ []) us [] [] (λ bit. None) (λ bit. None) here.0
          (subst (λ (l : Known). Run l (map (op_statement q) us) us [] (λ bit. None)) (sym here.1) later.0),
      ap (λ (l : Known). fold after l (map (op_statement q) us)) here.1 ∙ later.1,
    )

-- ---- parts
pub parts-known : (k : Known) (q : List ℕ) (n : ℕ) (us : List Op) (parts : List (List Op)) (bs : List (List ℕ)) → IsReady k q n
    → AllByRecursion (AllByRecursion (IsWritable n)) (us ∷ parts) → fold after k (part_statements q (us ∷ parts) bs) ≡ k
parts-known k q n us [] bs h w = (ops_run k q n us h w.0).1
parts-known k q n us (vs ∷ parts) [] h w =
    fold-append after k (map (op_statement q) us) (part_statements q (vs ∷ parts) [])
    ∙ ap (λ (l : Known). fold after l (part_statements q (vs ∷ parts) [])) (ops_run k q n us h w.0).1
    ∙ parts-known k q n vs parts [] h w.1
parts-known k q n us (vs ∷ parts) (is ∷ bs) h w =
    fold-append after k (map (op_statement q) us) (barrier_statement q is ∷ part_statements q (vs ∷ parts) bs)
    ∙ ap (λ (l : Known). fold after l (part_statements q (vs ∷ parts) bs)) (ops_run k q n us h w.0).1
    ∙ parts-known k q n vs parts bs h w.1

-- a part before others
part_run : (k : Known) (q : List ℕ) (n : ℕ) (us : List Op) (parts : List (List Op)) (bs : List (List ℕ)) (ys : List Statement) (f : ℕ → Option ℕ)
    → IsReady k q n → AllByRecursion (IsWritable n) us → Parted k ys [] parts bs [] f → Parted k (map (op_statement q) us ++ ys) us parts bs [] f
part_run k q n us parts bs ys f h w later =
    let here = ops_run k q n us h w in
    subst (λ (vs : List Op). Parted k (map (op_statement q) us ++ ys) vs parts bs [] f) (append-nil us)
    (Parted-front k (map (op_statement q) us) ys us [] parts bs [] [] f here.0
    (subst (λ (l : Known). Parted l ys [] parts bs [] f) (sym here.1) later))

pub parts_run : (k : Known) (q : List ℕ) (n : ℕ) (us : List Op) (parts : List (List Op)) (bs : List (List ℕ)) (ys : List Statement) (f : ℕ → Option ℕ)
    → IsReady k q n → AllByRecursion (AllByRecursion (IsWritable n)) (us ∷ parts) → AllByRecursion (IsNamed n) bs → length parts ≡ length bs
    → Run k ys [] [] f → Parted k (part_statements q (us ∷ parts) bs ++ ys) us parts bs [] f
parts_run k q n us [] [] ys f h w l e r = part_run k q n us [] [] ys f h w.0 (Parted-run k ys [] [] f r)
parts_run k q n us [] (is ∷ bs) ys f h w l e r = absurd (omega arith)
parts_run k q n us (vs ∷ parts) [] ys f h w l e r = absurd (omega arith)
parts_run k q n us (vs ∷ parts) (is ∷ bs) ys f h w l e r =
    let later = parts_run k q n vs parts bs ys f h w.1 l.1 (omega arith) r in
    let rest : List Statement = part_statements q (vs ∷ parts) bs in
    subst (λ (ss : List Statement). Parted k ss us (vs ∷ parts) (is ∷ bs) [] f)
    (sym (append_assoc (map (op_statement q) us) (barrier_statement q is ∷ rest) ys))
    (part_run k q n us (vs ∷ parts) (is ∷ bs) (barrier_statement q is ∷ (rest ++ ys)) f h w.0
    (Parted-bar k (map (at q) is) is (rest ++ ys) vs parts bs [] f
    (barrier_fine k q n is h l.0.1) (barrier_named k q n is h l.0) later))

-- ---- a circuit's gates
gate_writable : (n : ℕ) (g : Gate) → IsFine n g → IsWritable n (op_of g)
gate_writable n (H q) f = (inl (refl, refl, refl), f)
gate_writable n (X q) f = (inr (inl (refl, refl, refl)), f)
gate_writable n (P k q) f = (inr (inr (refl, refl, omega arith, f.1.1)), f.0)
gate_writable n (GateCx c t) f = f

pub IsWritable-ops : (n : ℕ) (gs : List Gate) → AllByRecursion (IsFine n) gs → AllByRecursion (IsWritable n) (ops gs)
IsWritable-ops n [] f = tt
IsWritable-ops n (g ∷ gs) f = (gate_writable n g f.0, IsWritable-ops n gs f.1)
