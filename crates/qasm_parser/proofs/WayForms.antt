-- What is said of a form and its outcomes.
--   sum_starts, sum_stops   what an expression may begin with, and what ends it
--   empty, starts, stops    a form may read nothing; it may begin so; where it is whole, it ends before that
--   fine             each part of a form ends before what may follow it there
--   fill             what a form reads
--   Follows          what may come behind what a form read, so that it reads the same
--   IsPhrase         where a form reads some symbols, it reads the same before whatever may follow
--   IsStuck          where it reads none, those before the place begin something that it reads, and with the next one they don't
--   Taken            what is read is nothing, or begins as the form may begin and is some
--   SumLaws          these three of expressions
use Rattle.std.proofs.Common.{◌≡◌, ℕ, ◌<◌, Bool, true, false, not, nat_eq, List, [], ◌∷◌, ◌++◌, length, ◌⊎◌}
use Rattle.qasm_parser.specs.declared.symbols.Keyword.TheVariants.{Pi}
use Rattle.qasm_parser.specs.Symbols.{Symbol, word}
use Rattle.qasm_parser.specs.Ways.{past, stuck, Shape, nothing, one, sequel, choice, many, until, sum, walk}
use Rattle.qasm_parser.proofs.KindLaws.{both, either, implies, kind_number, look, sample, under}

-- a number, pi or a name
abbrev pub is_atom : ℕ → Bool
is_atom c = either (nat_eq 20 c) (either (nat_eq 23 c) (either (nat_eq 24 c) (either (nat_eq 25 c) (nat_eq 29 c))))

-- such, or a parenthesis, a function or a minus
abbrev pub sum_starts : ℕ → Bool
sum_starts c = either (nat_eq 2 c) (either (nat_eq 28 c) (either (nat_eq 30 c) (is_atom c)))

-- no sign
abbrev pub sum_stops : ℕ → Bool
sum_stops c = both (not (nat_eq 30 c)) (not (nat_eq 31 c))

abbrev pub empty : Shape → Bool
empty nothing = true
empty (one k) = false
empty (sequel first second) = both (empty first) (empty second)
empty (choice k chosen others) = empty others
empty (many k each) = true
empty (until k each) = true
empty sum = false

abbrev pub starts : Shape → ℕ → Bool
starts nothing c = false
starts (one k) c = nat_eq (kind_number k) c
starts (sequel first second) c = either (starts first c) (both (empty first) (starts second c))
starts (choice k chosen others) c = either (nat_eq (kind_number k) c) (starts others c)
starts (many k each) c = nat_eq (kind_number k) c
starts (until k each) c = starts each c
starts sum c = sum_starts c

abbrev pub stops : Shape → ℕ → Bool
stops nothing c = true
stops (one k) c = true
stops (sequel first second) c = both (stops second c) (implies (empty second) (stops first c))
stops (choice k chosen others) c = both (stops chosen c) (both (stops others c) (implies (empty others) (not (nat_eq (kind_number k) c))))
stops (many k each) c = both (stops each c) (not (nat_eq (kind_number k) c))
stops (until k each) c = nat_eq (kind_number k) c
stops sum c = sum_stops c

abbrev pub apart : Shape → Shape → Bool
apart first second = under 33 (λ c. implies (starts second c) (stops first c))

abbrev pub fine : Shape → Bool
fine nothing = true
fine (one k) = not (nat_eq (kind_number k) 27)
fine (sequel first second) = both (fine first) (both (fine second) (apart first second))
fine (choice k chosen others) = both (fine chosen) (both (fine others) (both (not (nat_eq (kind_number k) 27)) (not (starts others (kind_number k)))))
fine (many k each) = both (fine each) (both (not (nat_eq (kind_number k) 27)) (stops each (kind_number k)))
fine (until k each) =
    both (fine each) (both (not (empty each)) (both (not (starts each (kind_number k))) (both (stops each (kind_number k)) (apart each each))))
fine sum = true

abbrev pub fill : Shape → List Symbol
fill nothing = []
fill (one k) = sample k ∷ []
fill (sequel first second) = fill first ++ fill second
fill (choice k chosen others) = fill others
fill (many k each) = []
fill (until k each) = []
fill sum = word Pi ∷ []

abbrev pub Follows : Shape → List Symbol → List Symbol → Type 0
Follows R rest vs = (stops R (look vs) ≡ true) ⊎ (look vs ≡ look rest)

pub record IsPhrase (R : Shape) (ts rest : List Symbol) : Type 0 where
  pub front : List Symbol
  pub split : ts ≡ front ++ rest
  pub before : (vs : List Symbol) → Follows R rest vs → walk R (front ++ vs) ≡ past vs

pub record IsStuck (R : Shape) (ts : List Symbol) (left : ℕ) : Type 0 where
  pub front : List Symbol
  pub back : List Symbol
  pub split : ts ≡ front ++ back
  pub many : left ≡ length back
  pub begun : (us : List Symbol) × ((vs : List Symbol) → stops R (look vs) ≡ true → walk R (front ++ (us ++ vs)) ≡ past vs)
  pub dead : (vs : List Symbol) → look vs ≡ look back → walk R (front ++ vs) ≡ stuck (length vs)

abbrev pub Taken : Shape → List Symbol → List Symbol → Type 0
Taken R ts rest = ((empty R ≡ true) × (ts ≡ rest)) ⊎ ((starts R (look ts) ≡ true) × (length rest < length ts))

pub record SumLaws : Type 0 where
  pub taken : (ts rest : List Symbol) → walk sum ts ≡ past rest → (sum_starts (look ts) ≡ true) × (length rest < length ts)
  pub phrase : (ts rest : List Symbol) → walk sum ts ≡ past rest → IsPhrase sum ts rest
  pub stuck : (ts : List Symbol) (left : ℕ) → walk sum ts ≡ stuck left → IsStuck sum ts left
  pub possible : (vs : List Symbol) → sum_stops (look vs) ≡ true → walk sum (word Pi ∷ vs) ≡ past vs
