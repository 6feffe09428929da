-- A device has one start of each number.
--   start-one   two of one number are equal
use Rattle.std.proofs.Common.{◌≡◌, ℕ, zero, suc, ◌*◌, ◌%◌, ◌<◌, List, get_or, sym, ap, ◌∙◌, subst, arith, ◌⊎◌, inl, inr}
use Rattle.std.proofs.Math.Nat.{mod-lt}
use Rattle.std.proofs.lemmas.Bool.{cases_eq, cases_lt}
use Rattle.std.proofs.lemmas.List.{ext_get_or}
use Rattle.unitary_model.specs.Placement.{position_of}
use Rattle.coupling_map.specs.Coupling.{Coupling, IsCoupling}
use Rattle.coupling_map.specs.Walks.{IsHops}
use Rattle.wire_starts.specs.Starts.{IsNearestFirst, IsTryStart}

-- p comes before q around c
abbrev IsSooner : List (ℕ × ℕ) → ℕ → ℕ → ℕ → Type 0
IsSooner es c p q = (h k : ℕ) → IsHops es c p h → IsHops es c q k → (h < k) ⊎ (h ≡ k) × (p < q)

module _ (es : List (ℕ × ℕ)) (n c : ℕ) (one : (a b j k : ℕ) → IsHops es a b j → IsHops es a b k → j ≡ k) (there : (q : ℕ) → q < n → (k : ℕ) × (k < n) × IsHops es c q k) where
  never-both : (p q : ℕ) → p < n → q < n → IsSooner es c p q → IsSooner es c q p → ⊥
  never-both p q lp lq s t =
      let a = there p lp in
      let b = there q lq in
      elim (s a.0 b.0 a.2 b.2) [
        | inl l ↦ elim (t b.0 a.0 b.2 a.2) [ inl g ↦ omega (arith, l, g) | inr g ↦ omega (arith, l, g.0) ]
        | inr l ↦ elim (t b.0 a.0 b.2 a.2) [ inl g ↦ omega (arith, l.0, g) | inr g ↦ omega (arith, l.1, g.1) ]
      ]

  -- the entries of two lists that are so ordered: what was before agrees
  not-sooner : (p q : List ℕ) (i : ℕ) → IsNearestFirst es n c p → IsNearestFirst es n c q → i < n → ((j : ℕ) → j < i → get_or p j 0 ≡ get_or q j 0)
      → IsSooner es c (get_or p i 0) (get_or q i 0) → ⊥
  not-sooner p q i hp hq l same s = elim (cases_lt m i) [
    | inl lt ↦ twice (get_or p m 0) (same m lt ∙ at) (λ h k eh ek. hp.ordered m i h k lt l eh ek)
    | inr ge ↦ elim (cases_eq m i) [
      | inl e ↦
          let here : get_or q i 0 ≡ x = ap (λ j. get_or q j 0) (sym e) ∙ at in
          let own = subst (IsSooner es c x) here s in
          never-both x x lx lx own own
      | inr ne ↦
          let up : i < m = omega (arith, ge, ne) in
          let back = subst (IsSooner es c (get_or q i 0)) at (λ h k eh ek. hq.ordered i m h k up lm eh ek) in
          never-both x (get_or q i 0) lx (hq.placed.within i l) s back
    ]
  ]
    where
      x : ℕ
      x = get_or p i 0

      lx : x < n
      lx = hp.placed.within i l

      m : ℕ
      m = position_of x q

      lm : m < n
      lm = hq.placed.each x lx

      at : get_or q m 0 ≡ x
      at = hq.placed.there x lx

      twice : (y : ℕ) → y ≡ x → IsSooner es c y x → ⊥
      twice y e t = let own = subst (λ z. IsSooner es c z x) e t in never-both x x lx lx own own

  either : (p q : ℕ) → p < n → q < n → (p ≡ q) ⊎ (IsSooner es c p q ⊎ IsSooner es c q p)
  either p q lp lq = elim (cases_lt a.0 b.0) [
    | inl l ↦ inr (inl (λ h k eh ek. inl (omega (arith, l, ea h eh, eb k ek))))
    | inr ge ↦ elim (cases_lt b.0 a.0) [
      | inl l ↦ inr (inr (λ k h ek eh. inl (omega (arith, l, ea h eh, eb k ek))))
      | inr le ↦ elim (cases_lt p q) [
        | inl l ↦ inr (inl (λ h k eh ek. inr (omega (arith, ge, le, ea h eh, eb k ek), l)))
        | inr gq ↦ elim (cases_eq p q) [
          | inl e ↦ inl e
          | inr ne ↦ inr (inr (λ k h ek eh. inr (omega (arith, ge, le, ea h eh, eb k ek), omega (arith, gq, ne))))
        ]
      ]
    ]
  ]
    where
      a : (k : ℕ) × (k < n) × IsHops es c p k
      a = there p lp

      b : (k : ℕ) × (k < n) × IsHops es c q k
      b = there q lq

      ea : (h : ℕ) → IsHops es c p h → a.0 ≡ h
      ea h eh = one c p a.0 h a.2 eh

      eb : (k : ℕ) → IsHops es c q k → b.0 ≡ k
      eb k ek = one c q b.0 k b.2 ek

  agree : (p q : List ℕ) → IsNearestFirst es n c p → IsNearestFirst es n c q → (k j : ℕ) → j < k → j < n → get_or p j 0 ≡ get_or q j 0
  agree p q hp hq zero j l lj = absurd (omega (arith, l))
  agree p q hp hq (suc k) j l lj = elim (cases_eq j k) [
    | inr ne ↦ agree p q hp hq k j (omega (arith, l, ne)) lj
    | inl e ↦ elim (either (get_or p j 0) (get_or q j 0) (hp.placed.within j lj) (hq.placed.within j lj)) [
      | inl same ↦ same
      | inr f ↦ absurd (elim f [
        | inl s ↦ not-sooner p q j hp hq lj (λ i li. agree p q hp hq k i (omega (arith, li, e)) (omega (arith, li, lj))) s
        | inr s ↦ not-sooner q p j hq hp lj (λ i li. sym (agree p q hp hq k i (omega (arith, li, e)) (omega (arith, li, lj)))) s
      ])
    ]
  ]

  around-one : (p q : List ℕ) → IsNearestFirst es n c p → IsNearestFirst es n c q → p ≡ q
  around-one p q hp hq = ext_get_or 0 p q (hp.placed.long ∙ sym hq.placed.long) (λ j l. agree p q hp hq n j (omega (arith, l, hp.placed.long)) (omega (arith, l, hp.placed.long)))

pub start-one : ((es : List (ℕ × ℕ)) (a b j k : ℕ) → IsHops es a b j → IsHops es a b k → j ≡ k)
    → ((d : Coupling) (a b : ℕ) → IsCoupling d → a < d.size → b < d.size → (k : ℕ) × (k < d.size) × IsHops d.edges a b k)
    → (d : Coupling) (k : ℕ) (p q : List ℕ) → IsCoupling d → IsTryStart d k p → IsTryStart d k q → p ≡ q
start-one one there d zero p q h a b = a ∙ sym b
start-one one there d (suc k) p q h a b =
    let lc = mod-lt (7 * k) h.graph.positive in
    around-one d.edges d.size ((7 * k) % d.size) (one d.edges) (λ x l. there d ((7 * k) % d.size) x h lc l) p q a b
