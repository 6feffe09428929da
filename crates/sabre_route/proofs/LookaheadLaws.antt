-- What is kept of the pairs that a swap is judged by, said of what contracts see.
--   IsLookahead-seen     the same of equal pairs on equal devices
--   apart-tested         two numbers that a test tells apart aren't equal
--   IsBest-seen          the swaps of one pair more were tried, where the pairs that are read are equal to those
use Rattle.std.proofs.Common.{◌≡◌, ℕ, ◌+◌, ◌<◌, List, get_or, length, nat_eq, not, subst, sym, arith}
use Rattle.std.specs.Prelude.{IsTrue}
use Rattle.std.proofs.lemmas.Bool.Decides.{nat_tests}
use Rattle.sabre_route.specs.declared.best.Choice.{Choice}
use Rattle.sabre_route.specs.Scores.{IsBest, IsChoice, IsLookahead, Judged}
use Rattle.sabre_route.specs.Search.{IsNotAbove}
use Rattle.sabre_route.proofs.ScoreLaws.{AreTried, IsBest-more, IsTriedAt}

pub IsLookahead-seen : (v w : Judged) (partner ends on : List ℕ) (front_sum extended_sum : ℕ) → v ≡ w → IsLookahead v partner ends on front_sum extended_sum → IsLookahead w partner ends on front_sum extended_sum
IsLookahead-seen v w partner ends on front_sum extended_sum same h = subst (λ (x : Judged). IsLookahead x partner ends on front_sum extended_sum) same h

pub IsBest-seen : (v w : Judged) (k : ℕ) (old one two : Choice) → v ≡ w → k < length v.front → IsBest w.device w.front w.extended (IsTriedAt w.front k) old → IsChoice w.device w.front w.extended two
    → IsNotAbove one.score one.a one.b old.score old.a old.b → IsNotAbove two.score two.a two.b one.score one.a one.b
    → AreTried w.device w.front w.extended one (get_or v.front k (0, 0)).0 → AreTried w.device w.front w.extended two (get_or v.front k (0, 0)).1
    → IsBest w.device w.front w.extended (IsTriedAt w.front (k + 1)) two
IsBest-seen v w k old one two same lt h choice better best on_first on_second =
    subst (λ (x : Judged). k < length x.front → AreTried w.device w.front w.extended one (get_or x.front k (0, 0)).0 → AreTried w.device w.front w.extended two (get_or x.front k (0, 0)).1
    → IsBest w.device w.front w.extended (IsTriedAt w.front (k + 1)) two) (sym same)
    (λ l f g. IsBest-more w.device w.front w.extended k old one two l h choice better best f g) lt on_first on_second

pub apart-tested : (x y : ℕ) → IsTrue (not (nat_eq x y)) → x ≡ y → ⊥
apart-tested x y t e = grind (arith, nat_tests)
