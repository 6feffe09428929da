-- What a breadth-first search keeps, and the chain that leads from a reached row back to the new one.
--   Tree                the reached rows in order: node 0 is the new row; each other node was found by an earlier one,
--                       in whose sum it stands; a place that stands in a sum wasn't found after it
--   chain place .. k    the nodes from k back to the root
--   taker-chain         its first node's row is the one that goes out of its block, or the new one
--   chain-linked        it is linked, so that exchanges along it, from its end on, keep all blocks independent
--   apart-chain         a node's block is another one than that into which its row goes
use Rattle.std.proofs.Common.{◌≡◌, ℕ, zero, suc, ◌<◌, ◌≤◌, List, [], ◌∷◌, map, refl, sym, ap, ◌∙◌, arith, inl, inr}
use Rattle.gf2_linear.specs.Rows.{row_sum}
use Rattle.matroid_partition.specs.Places.{Has}
use Rattle.matroid_partition.proofs.Exchanges.{All_in, Lacks, Uses, Link, taker, Unused, Apart, Linked}

-- of each node: its place, the node that found it, the block that has it, and the places of this block that sum to the finder's row
pub record Found : Type 0 where
  pub place : ℕ → ℕ
  pub parent : ℕ → ℕ
  pub home : ℕ → ℕ
  pub sum : ℕ → List ℕ

pub record IsFound (r : ℕ → ℕ) (B : ℕ → List ℕ) (t : Found) (k : ℕ) : Type 0 where
  pub earlier : t.parent k < k
  pub inside : All_in (B (t.home k)) (t.sum k)
  pub uses : Uses (t.place k) (t.sum k)
  pub told : row_sum (map r (t.sum k)) ≡ r (t.place (t.parent k))
  pub there : Has (B (t.home k)) (t.place k)
  pub apart : 0 < t.parent k → t.home (t.parent k) ≡ t.home k → ⊥

pub record Tree (r : ℕ → ℕ) (B : ℕ → List ℕ) (count : ℕ) (t : Found) : Type 0 where
  pub each : (k : ℕ) → 0 < k → k < count → IsFound r B t k
  pub order : (k m : ℕ) → 0 < k → k < count → 0 < m → m < count → Has (t.sum k) (t.place m) → t.parent m ≤ t.parent k

-- fuel is at least k
abbrev pub chain : Found → ℕ → ℕ → List Link
chain t fuel zero = []
chain t zero (suc k) = []
chain t (suc fuel) (suc k) = record { place = t.place (suc k); home = t.home (suc k); sum = t.sum (suc k) } ∷ chain t fuel (t.parent (suc k))

pub Lacks-from : (y : ℕ) (es : List ℕ) → (Has es y → ⊥) → Lacks y es
Lacks-from y [] n = tt
Lacks-from y (e ∷ es) n = ((λ q. n (inl q)), Lacks-from y es (λ h. n (inr h)))

pub taker-chain : (t : Found) (fuel k : ℕ) → k ≤ fuel → taker (t.place 0) (chain t fuel k) ≡ t.place k
taker-chain t fuel zero h = refl
taker-chain t zero (suc k) h = absurd (omega arith)
taker-chain t (suc fuel) (suc k) h = refl

unused-chain : (r : ℕ → ℕ) (B : ℕ → List ℕ) (count : ℕ) (t : Found) → Tree r B count t → (m : ℕ) → 0 < m → m < count
    → (fuel q : ℕ) → q ≤ t.parent m → q < count → Unused (t.place m) (chain t fuel q)
unused-chain r B count t w m hm lm fuel zero g l = tt
unused-chain r B count t w m hm lm zero (suc q) g l = tt
unused-chain r B count t w m hm lm (suc fuel) (suc q) g l =
    let e : t.parent (suc q) < suc q = (w.each (suc q) (omega arith) l).earlier in (
      Lacks-from (t.place m) (t.sum (suc q))
          (λ h. let o : t.parent m ≤ t.parent (suc q) = w.order (suc q) m (omega arith) l hm lm h in absurd (omega arith)),
      unused-chain r B count t w m hm lm fuel (t.parent (suc q)) (omega arith) (omega arith),
    )

pub apart-chain : (t : Found) (fuel q b : ℕ) → (0 < q → t.home q ≡ b → ⊥) → Apart b (chain t fuel q)
apart-chain t fuel zero b n = tt
apart-chain t zero (suc q) b n = tt
apart-chain t (suc fuel) (suc q) b n = n (omega arith)

pub chain-linked : (r : ℕ → ℕ) (B : ℕ → List ℕ) (count : ℕ) (t : Found) → Tree r B count t → (fuel k : ℕ) → k ≤ fuel → k < count
    → Linked r B (t.place 0) (chain t fuel k)
chain-linked r B count t w fuel zero h l = tt
chain-linked r B count t w zero (suc k) h l = absurd (omega arith)
chain-linked r B count t w (suc fuel) (suc k) h l =
    let f : IsFound r B t (suc k) = w.each (suc k) (omega arith) l in
    let e : t.parent (suc k) < suc k = f.earlier in (
      f.inside,
      f.uses,
      f.told ∙ sym (ap r (taker-chain t fuel (t.parent (suc k)) (omega arith))),
      f.there,
      unused-chain r B count t w (suc k) (omega arith) l fuel (t.parent (suc k)) (omega arith) (omega arith),
      apart-chain t fuel (t.parent (suc k)) (t.home (suc k)) f.apart,
      chain-linked r B count t w fuel (t.parent (suc k)) (omega arith) (omega arith),
    )
