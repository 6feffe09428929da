-- Rows that have come in, and a new one behind them.
--   rows-agree             rows that agree at some places
--   state-rows             a state depends on the rows that have a home
--   state-with, spans-with, count-with    what holds with a new row behind the others
--   shown-with             a witness stays one
--   spanned-old            a row that came in is spanned
use Rattle.std.proofs.Common.{◌≡◌, ℕ, ◌+◌, ◌<◌, ◌≤◌, true, List, [], ◌∷◌, ◌++◌, length, map, get_or, refl, sym, ap, subst, ◌∙◌, arith, ◌⊎◌, inl, inr}
use Rattle.std.specs.Prelude.{◌*◌}
use Rattle.std.proofs.lemmas.Bool.{cases_lt}
use Rattle.std.proofs.lemmas.List.{length-append, get_or_append_left, get_or_push}
use Rattle.std.proofs.lemmas.List.Elements.{All-weaker}
use Rattle.matroid_partition.specs.declared.blocks.Block.{Block}
use Rattle.matroid_partition.specs.Arrangements.{Arrangement, IsArranged, rows_with}
use Rattle.matroid_partition.specs.Places.{Has}
use Rattle.matroid_partition.specs.Blocks.{IsBlock, IsShown, IsState, SpansFirst}
use Rattle.gf2_linear.specs.Rows.{is_independent, is_sum, rank, rows_at}
use Rattle.matroid_partition.proofs.PlaceLaws.{Has-at, at-Has}
use Rattle.matroid_partition.proofs.StateLaws.{places_at-is}

pub rows-agree : (xs ys ps : List ℕ) → ((i : ℕ) → Has ps i → get_or xs i 0 ≡ get_or ys i 0) → map (λ i. get_or xs i 0) ps ≡ map (λ i. get_or ys i 0) ps
rows-agree xs ys [] h = refl
rows-agree xs ys (p ∷ ps) h = λ i. h p (inl refl) i ∷ rows-agree xs ys ps (λ j t. h j (inr t)) i

state-rows : (xs ys homes : List ℕ) (blocks : List Block) → length homes ≤ length ys → ((i : ℕ) → i < length homes → get_or xs i 0 ≡ get_or ys i 0)
    → IsState xs homes blocks → IsState ys homes blocks
unfolding rows_at
state-rows xs ys homes blocks few h st = record {
  few = few;
  block = λ k d l.
      let b : IsBlock xs (get_or blocks k d) = st.block k d l in
      let old : (i : ℕ) → Has (get_or blocks k d).places.items i → i < length homes = λ i t. (st.only k i (subst (λ (q : List ℕ). Has q i) (sym (places_at-is blocks k d l)) t)).0 in
      let same : map (λ i. get_or xs i 0) (get_or blocks k d).places.items ≡ map (λ i. get_or ys i 0) (get_or blocks k d).places.items =
      rows-agree xs ys (get_or blocks k d).places.items (λ i t. h i (old i t)) in
      record {
        basis = b.basis ∙ same;
        within = λ j e m. let s : get_or (get_or blocks k d).places.items j e < length homes = old (get_or (get_or blocks k d).places.items j e) (at-Has (get_or blocks k d).places.items j e m) in omega arith;
        ascending = b.ascending;
        independent = ap is_independent (sym same) ∙ b.independent;
      };
  home = st.home;
  only = st.only;
}

held-state : (held homes : List ℕ) (blocks : List Block) (x : ℕ) → length homes ≡ length held → IsState held homes blocks → IsState (held ++ x ∷ []) homes blocks
held-state held homes blocks x e st = state-rows held (held ++ x ∷ []) homes blocks (omega (arith, e, length-append held (x ∷ [])))
    (λ i l. sym (get_or_append_left held (x ∷ []) 0 i (omega (arith, e)))) st

held-spans : (held all : List ℕ) (x : ℕ) → SpansFirst (length held) held all → is_sum all x ≡ true → SpansFirst (length held + 1) (held ++ x ∷ []) all
held-spans held all x s h i l = go (cases_lt i (length held))
  where
    go : (i < length held) ⊎ (length held ≤ i) → is_sum all (get_or (held ++ x ∷ []) i 0) ≡ true
    go (inl m) = ap (is_sum all) (get_or_append_left held (x ∷ []) 0 i m) ∙ s i m
    go (inr m) = let e : length held ≡ i = omega arith in ap (is_sum all) (get_or_push held x 0 i e) ∙ h

pub state-with : (a : Arrangement) (v : ℕ) → IsArranged a → IsState (rows_with a v) a.homes a.blocks
state-with a v w = held-state a.rows a.homes a.blocks v w.count w.state

pub count-with : (a : Arrangement) (v : ℕ) → IsArranged a → length (rows_with a v) ≡ length a.homes + 1
count-with a v w = length-append a.rows (v ∷ []) ∙ ap (λ k. k + 1) (sym w.count)

pub spans-with : (a : Arrangement) (v : ℕ) → IsArranged a → is_sum a.all v ≡ true → SpansFirst (length a.homes + 1) (rows_with a v) a.all
spans-with a v w h = subst (λ k. SpansFirst (k + 1) (rows_with a v) a.all) (sym w.count) (held-spans a.rows a.all v w.spans h)

-- a witness stays one where a row more comes
pub shown-with : (rows : List ℕ) (k x : ℕ) (S : List ℕ) → IsShown rows k S → IsShown (rows ++ x ∷ []) k S
unfolding rows_at
shown-with rows k x S s = record {
  within = All-weaker (λ i. i < length rows) (λ i. i < length (rows ++ x ∷ [])) (λ i l. omega (arith, length-append rows (x ∷ []))) S s.within;
  ascending = s.ascending;
  more = subst (λ (q : List ℕ). k * rank q < length S)
      (rows-agree rows (rows ++ x ∷ []) S (λ i h. sym (get_or_append_left rows (x ∷ []) 0 i
      (let r : (j : ℕ) × (j < length S) × (get_or S j 0 ≡ i) = Has-at S i h in subst (λ m. m < length rows) r.2 (s.within r.0 0 r.1))))) s.more;
}

-- a row that came in is spanned
pub spanned-old : (a : Arrangement) (v i : ℕ) → IsArranged a → i < length a.homes → is_sum a.all (get_or (rows_with a v) i 0) ≡ true
spanned-old a v i w l = let m : i < length a.rows = subst (λ k. i < k) w.count l in ap (is_sum a.all) (get_or_append_left a.rows (v ∷ []) 0 i m) ∙ w.spans i m
