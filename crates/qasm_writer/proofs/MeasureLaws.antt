-- The measurements of a written tree.
--   IsRead n o           the qubit of a read is below n
--   Same k l             l differs from k in what is measured alone
--   AreDeclared d b rs   by the naming d these registers stand side by side, from the bit b on
--   read_from b os bit   what is read into a bit, where these are the reads of the bits from b on
--   reads_listed         the reads of all bits, one by one
--   all_take, all_drop   what holds of all of a list holds of its front and of what is behind that
--   reads_run            what the measurements mean
use Rattle.std.proofs.Common.{◌≡◌, ℕ, zero, suc, ◌+◌, ◌<◌, ◌≤◌, List, [], ◌∷◌, ◌++◌, Bool, true, false, if◌then◌else◌, Option, Some, None, refl, sym, subst, ◌∙◌, ap, arith, add-one, length, map, fold, take, drop, get_or}
use Rattle.std.specs.Prelude.{nat_eq}
use Rattle.std.specs.List.{AllByRecursion, sum_by}
use Rattle.std.specs.Option.{option_or}
use Rattle.std.proofs.lemmas.Bool.Decides.{nat_tests}
use Rattle.std.proofs.Math.Seq.{take-length}
use Rattle.std.proofs.lemmas.Grind.{take_at_read}
use Rattle.std.proofs.lemmas.List.{length-drop, length-take, map-append, take-append-drop}
use Rattle.std.proofs.lemmas.List.Sums.{fold-append, sum_by-append}
use Rattle.qasm_parser.specs.Tree.{Statement, act, measure}
use Rattle.qasm_check.specs.Arguments.{operand}
use Rattle.gate_library.specs.Operands.{upto}
use Rattle.qasm_check.specs.Known.{Known, with_measured}
use Rattle.qasm_check.specs.Steps.{after}
use Rattle.qasm_check.specs.declared.meaning.Meaning.{Meaning}
use Rattle.qasm_check.specs.declared.register.ClassicalRegister.{ClassicalRegister}
use Rattle.gate_library.specs.declared.operand.Operand.{Operand}
use Rattle.gate_inline.specs.Registers.{IsRead}
use Rattle.qasm_writer.specs.Trees.{at, read_statement, register_statements, read_statements}
use Rattle.qasm_writer.proofs.RunLaws.{Run, Run-append, Run-nil, Run-reads, none_or, or_or}
use Rattle.qasm_writer.proofs.StatementLaws.{bits_register, wires_register, measure_run}

-- ---- what stays
pub record Same (k l : Known) : Type 0 where
  pub declared : l.declared ≡ k.declared
  pub gates : l.gates ≡ k.gates
  pub wires : l.wires ≡ k.wires
  pub bits : l.bits ≡ k.bits

same_self : (k : Known) → Same k k
same_self k = record { declared = refl; gates = refl; wires = refl; bits = refl }

same_then : (k l m : Known) → Same k l → Same l m → Same k m
same_then k l m s t = record {
  declared = t.declared ∙ s.declared;
  gates = t.gates ∙ s.gates;
  wires = t.wires ∙ s.wires;
  bits = t.bits ∙ s.bits;
}

measured_same : (k : Known) (o : Option Operand) → Same k (with_measured k o)
measured_same k None = same_self k
measured_same k (Some p) = record { declared = refl; gates = refl; wires = refl; bits = refl }

same_append : (k : Known) (xs ys : List Statement) → Same k (fold after k xs) → Same (fold after k xs) (fold after (fold after k xs) ys)
    → Same k (fold after k (xs ++ ys))
same_append k xs ys s t =
    subst (Same k) (sym (fold-append after k xs ys)) (same_then k (fold after k xs) (fold after (fold after k xs) ys) s t)

-- ---- what is read into a bit
abbrev pub read_here : ℕ → Option ℕ → ℕ → Option ℕ
read_here b None bit = None
read_here b (Some w) bit = if nat_eq bit b then Some w else None

abbrev pub read_from : ℕ → List (Option ℕ) → ℕ → Option ℕ
read_from b [] bit = None
read_from b (o ∷ os) bit = option_or (read_from (b + 1) os bit) (read_here b o bit)

here_same : (b x : ℕ) (o : Option ℕ) → x ≡ b → read_here b o x ≡ o
here_same b x None e = refl
here_same b x (Some w) e = let yes : nat_eq x b ≡ true = grind (arith, nat_tests) in ap (λ (t : Bool). if t then Some w else None) yes

here_other : (b x : ℕ) (o : Option ℕ) → b < x → read_here b o x ≡ None
here_other b x None e = refl
here_other b x (Some w) e = let no : nat_eq x b ≡ false = grind (arith, nat_tests) in ap (λ (t : Bool). if t then Some w else None) no

here_before : (b x : ℕ) (o : Option ℕ) → x < b → read_here b o x ≡ None
here_before b x None e = refl
here_before b x (Some w) e = let no : nat_eq x b ≡ false = grind (arith, nat_tests) in ap (λ (t : Bool). if t then Some w else None) no

read_before : (os : List (Option ℕ)) (b x : ℕ) → x < b → read_from b os x ≡ None
read_before [] b x l = refl
read_before (o ∷ os) b x l = λ j. option_or (read_before os (b + 1) x (omega arith) j) (here_before b x o l j)

read_at : (os : List (Option ℕ)) (b x i : ℕ) → x ≡ b + i → get_or os i None ≡ read_from b os x
read_at [] b x i e = refl
read_at (o ∷ os) b x zero e = sym (λ j. option_or (read_before os (b + 1) x (omega arith) j) (here_same b x o (omega arith) j))
read_at (o ∷ os) b x (suc i) e =
    read_at os (b + 1) x i (omega arith)
    ∙ sym (none_or (read_from (b + 1) os x)) ∙ sym (ap (option_or (read_from (b + 1) os x)) (here_other b x o (omega arith)))

reads_first : (os : List (Option ℕ)) (n : ℕ) → n ≤ length os → map (read_from 0 os) (upto n) ≡ take n os
unfolding upto
reads_first os zero l = refl
reads_first os (suc n) l =
    map-append (read_from 0 os) (upto n) (n ∷ [])
    ∙ (λ j. reads_first os n (omega arith) j ++ sym (read_at os 0 n n (omega arith)) j ∷ [])
    ∙ sym (take_at_read os n None (omega arith)).1 ∙ ap (λ m. take m os) (add-one n)

pub reads_listed : (os : List (Option ℕ)) → map (read_from 0 os) (upto (length os)) ≡ os
reads_listed os = reads_first os (length os) (omega arith) ∙ take-length os

read_from-append : (xs ys : List (Option ℕ)) (b c x : ℕ) → c ≡ b + length xs → read_from b (xs ++ ys) x ≡ option_or (read_from c ys x) (read_from b xs x)
read_from-append [] ys b c x e =
    (let same : b ≡ c = omega arith in ap (λ m. read_from m ys x) same) ∙ sym (none_or (read_from c ys x))
read_from-append (o ∷ xs) ys b c x e =
    ap (λ (r : Option ℕ). option_or r (read_here b o x)) (read_from-append xs ys (b + 1) c x (omega arith))
    ∙ or_or (read_from c ys x) (read_from (b + 1) xs x) (read_here b o x)

-- ---- registers side by side
abbrev pub AreDeclared : (List ℕ → Option Meaning) → ℕ → List ClassicalRegister → Type 0
AreDeclared d b [] = Unit {0}
AreDeclared d b (r ∷ rs) = (d r.name ≡ Some (bits_register b r.size)) × AreDeclared d (b + r.size) rs

unfoldable pub sizes : List ClassicalRegister → ℕ
sizes [] = 0
sizes (r ∷ rs) = r.size + sizes rs

pub sum-sizes : (rs : List ClassicalRegister) → sum_by (λ r. r.size) rs ≡ sizes rs
unfolding sizes
sum-sizes [] = refl
sum-sizes (r ∷ rs) = sum_by-append (λ (x : ClassicalRegister). x.size) (r ∷ []) rs ∙ (let later : sum_by (λ r. r.size) rs ≡ sizes rs = sum-sizes rs in omega arith)

-- ---- one read, one register, all
read_run : (k : Known) (q : List ℕ) (n : ℕ) (name : List ℕ) (first size i b : ℕ) (o : Option ℕ) → (0 < n → k.declared q ≡ Some (wires_register n))
    → k.declared name ≡ Some (bits_register first size) → i < size → IsRead n o → b ≡ first + i
    → Run k (read_statement q name i o) [] [] (read_here b o) × Same k (fold after k (read_statement q name i o))
read_run k q n name first size i b None dq dn l r e = (Run-nil k, same_self k)
read_run k q n name first size i b (Some w) dq dn l r e = (
  Run-reads k (act (measure (at q w) (at name i)) ∷ []) [] [] (read_here (first + i) (Some w)) (read_here b (Some w))
      (λ bit. ap (λ m. read_here m (Some w) bit) (sym e))
      (measure_run k q n w name first size i (dq (omega arith)) dn r l),
  measured_same k (operand k (at q w)),
)

register_run : (k : Known) (q : List ℕ) (n : ℕ) (name : List ℕ) (first size i b : ℕ) (os : List (Option ℕ)) → (0 < n → k.declared q ≡ Some (wires_register n))
    → k.declared name ≡ Some (bits_register first size) → i + length os ≤ size → AllByRecursion (IsRead n) os → b ≡ first + i
    → Run k (register_statements q name i os) [] [] (read_from b os) × Same k (fold after k (register_statements q name i os))
register_run k q n name first size i b [] dq dn l r e = (Run-nil k, same_self k)
register_run k q n name first size i b (o ∷ os) dq dn l r e =
    let here = read_run k q n name first size i b o dq dn (omega arith) r.0 e in
    let next : Known = fold after k (read_statement q name i o) in
    let later = register_run next q n name first size (i + 1) (b + 1) os (λ s. ap (λ (d : List ℕ → Option Meaning). d q) here.1.declared ∙ dq s)
    (ap (λ (d : List ℕ → Option Meaning). d name) here.1.declared ∙ dn) (omega arith) r.1 (omega arith) in (
      Run-append k (read_statement q name i o) (register_statements q name (i + 1) os) [] [] [] [] (read_here b o) (read_from (b + 1) os) here.0 later.0,
      same_append k (read_statement q name i o) (register_statements q name (i + 1) os) here.1 later.1,
    )

pub all_take : {A : Type 0} (P : A → Type 0) (n : ℕ) (xs : List A) → AllByRecursion P xs → AllByRecursion P (take n xs)
all_take P zero xs a = tt
all_take P (suc n) [] a = tt
all_take P (suc n) (x ∷ xs) a = (a.0, all_take P n xs a.1)

pub all_drop : {A : Type 0} (P : A → Type 0) (n : ℕ) (xs : List A) → AllByRecursion P xs → AllByRecursion P (drop n xs)
all_drop P zero xs a = a
all_drop P (suc n) [] a = tt
all_drop P (suc n) (x ∷ xs) a = all_drop P n xs a.1

pub reads_run : (k : Known) (q : List ℕ) (n : ℕ) (rs : List ClassicalRegister) (reads : List (Option ℕ)) (b : ℕ) → (0 < n → k.declared q ≡ Some (wires_register n))
    → AreDeclared k.declared b rs → sizes rs ≡ length reads → AllByRecursion (IsRead n) reads
    → Run k (read_statements q rs reads) [] [] (read_from b reads) × Same k (fold after k (read_statements q rs reads))
unfolding sizes
reads_run k q n [] [] b dq d e r = (Run-nil k, same_self k)
reads_run k q n [] (o ∷ os) b dq d e r = absurd (omega arith)
reads_run k q n (s ∷ rs) reads b dq d e r =
    let long : length (take s.size reads) ≡ s.size = omega (arith, length-take s.size reads) in
    let rest : sizes rs ≡ length (drop s.size reads) = omega (arith, length-drop s.size reads) in
    let here = register_run k q n s.name b s.size 0 b (take s.size reads) dq d.0 (omega arith) (all_take (IsRead n) s.size reads r) (omega arith) in
    let next : Known = fold after k (register_statements q s.name 0 (take s.size reads)) in
    let later = reads_run next q n rs (drop s.size reads) (b + s.size) (λ t. ap (λ (f : List ℕ → Option Meaning). f q) here.1.declared ∙ dq t)
    (subst (λ (f : List ℕ → Option Meaning). AreDeclared f (b + s.size) rs) (sym here.1.declared) d.1) rest (all_drop (IsRead n) s.size reads r) in (
      Run-reads k (read_statements q (s ∷ rs) reads) [] [] (λ bit. option_or (read_from (b + s.size) (drop s.size reads) bit) (read_from b (take s.size reads) bit)) (read_from b reads)
          (λ bit. sym (read_from-append (take s.size reads) (drop s.size reads) b (b + s.size) bit (omega arith))
          ∙ ap (λ (os : List (Option ℕ)). read_from b os bit) (take-append-drop s.size reads))
          (Run-append k (register_statements q s.name 0 (take s.size reads)) (read_statements q rs (drop s.size reads)) [] [] [] []
          (read_from b (take s.size reads)) (read_from (b + s.size) (drop s.size reads)) here.0 later.0),
      same_append k (register_statements q s.name 0 (take s.size reads)) (read_statements q rs (drop s.size reads)) here.1 later.1,
    )
