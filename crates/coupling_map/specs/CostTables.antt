-- Working form. The table of the costs of all pairs.
--   price n table a b     the number for a pair, at a * n + b
--   IsListed n table a b  it is a cost, the same both ways
--   CostTable             a number of qubits, and a table of all pairs;  IsCostTable: it is as long
--   IsPriced es cs t      the table of the edges es, whose costs are cs
--   listed_back, table_fair   what is listed is listed both ways, so that the table is fair to both ends
use Rattle.std.specs.Prelude.{◌≡◌, ℕ, ◌+◌, ◌*◌, ◌<◌, ◌≤◌, List, Some, if◌then◌else◌, length, slice_index}
use Rattle.std.proofs.Common.{sym}
use Rattle.unitary_model.specs.Limits.{most_qubits}
use Rattle.coupling_map.specs.Walks.{is_near}
use Rattle.coupling_map.specs.Costs.{cost_of, AreFair}

abbrev pub price : ℕ → List ℕ → ℕ → ℕ → ℕ
price n table a b = slice_index table (a * n + b)

pub record IsListed (n : ℕ) (table : List ℕ) (a b : ℕ) : Type 0 where
  pub first : a < n
  pub second : b < n
  pub positive : 1 ≤ price n table a b
  pub limited : price n table a b ≤ 1000000
  pub same : price n table a b ≡ price n table b a
  pub positive_back : 1 ≤ price n table b a
  pub limited_back : price n table b a ≤ 1000000

pub record CostTable : Type 0 where
  pub size : ℕ
  pub table : List ℕ

pub record IsCostTable (t : CostTable) : Type 0 where
  pub limited : t.size ≤ most_qubits
  pub long : length t.table ≡ t.size * t.size

-- the cost of each near pair, and 0 for each other
pub record IsPriced (es : List (ℕ × ℕ)) (cs : List ℕ) (t : CostTable) : Type 0 where
  pub long : length t.table ≡ t.size * t.size
  pub says : (a b : ℕ) → a < t.size → b < t.size → price t.size t.table a b ≡ (if is_near es a b then cost_of es (Some cs) a b else 0)

-- what is listed is listed both ways
pub listed_back : (n : ℕ) (table : List ℕ) (a b : ℕ) → IsListed n table a b → IsListed n table b a
listed_back n table a b t = record {
  first = t.second;
  second = t.first;
  positive = t.positive_back;
  limited = t.limited_back;
  same = sym t.same;
  positive_back = t.positive;
  limited_back = t.limited;
}

pub table_fair : (t : CostTable) → AreFair (IsListed t.size t.table) (price t.size t.table)
table_fair t = record {
  turned = λ a b h. listed_back t.size t.table a b h;
  positive = λ a b h. h.positive;
  limited = λ a b h. h.limited;
  symmetric = λ a b h. h.same;
}
