-- Gates that are read line by line.
--     gate-unsplit        a line that is no word with numbers spells no gate
--     gate-unread         nor does one with the words of none
--     gate-coarse         one with the words of a gate that isn't fine spells no fine gate
--     gate-read           the words of a gate spell it
--     NextGate            the first gate of those that are still to be read;  next_gate: there is one
--     gates-pushed        one gate more was read
--     fine-small          the numbers of gates on few wires are small
use Rattle.std.proofs.Common.{◌≡◌, ℕ, ◌<◌, ◌≤◌, List, [], ◌∷◌, ◌++◌, length, map, sym, subst, ◌∙◌, ap, arith, append_assoc}
use Rattle.std.specs.List.{AllByRecursion, flat_map}
use Rattle.std.proofs.lemmas.List.{map-append}
use Rattle.circuit_list.specs.declared.Gate.{Gate}
use Rattle.circuit_list.specs.declared.Gate.TheVariants.{H, X, P, Cx}
use Rattle.circuit_list.specs.Gates.{IsFine, most_wires}
use Rattle.rewrite_pass.specs.TraceLines.{gate_line, gate_numbers, words}
use Rattle.trace_model.specs.Spelling.{AreSmall, HasNoSpace, gate_word}
use Rattle.trace_model.proofs.SpellingLaws.{gate-plain, gate-spelt, gate-unique, small-split, words-unique}

pub gate-unsplit : (line : List ℕ) (n : ℕ) → ((w ks : List ℕ) → HasNoSpace w → AreSmall ks → line ≡ words w ks → ⊥) → (g : Gate) → IsFine n g → AreSmall (gate_numbers g) → line ≡ gate_line g → ⊥
gate-unsplit line n none g fine small e = none (gate_word g) (gate_numbers g) (gate-plain g) small (e ∙ gate-spelt g)

pub gate-unread : (line w ks : List ℕ) (n : ℕ) → HasNoSpace w → AreSmall ks → line ≡ words w ks → ((g : Gate) (m : ℕ) → IsFine m g → w ≡ gate_word g → ks ≡ gate_numbers g → ⊥) →
    (g : Gate) → IsFine n g → AreSmall (gate_numbers g) → line ≡ gate_line g → ⊥
gate-unread line w ks n plain hk whole none g fine small e =
    let u = words-unique w (gate_word g) ks (gate_numbers g) plain (gate-plain g) hk small (sym whole ∙ e ∙ gate-spelt g) in
    none g n fine u.0 u.1

pub gate-read : (line w ks : List ℕ) (g : Gate) → line ≡ words w ks → w ≡ gate_word g → ks ≡ gate_numbers g → line ≡ gate_line g
gate-read line w ks g whole a b = whole ∙ (λ i. words (a i) (b i)) ∙ sym (gate-spelt g)

pub gate-coarse : (line ks : List ℕ) (f : Gate) (n : ℕ) → AreSmall ks → ks ≡ gate_numbers f → line ≡ gate_line f → (IsFine n f → ⊥) → (g : Gate) → IsFine n g → AreSmall (gate_numbers g) → line ≡ gate_line g → ⊥
gate-coarse line ks f n hk same whole coarse g fine small e = coarse (subst (IsFine n) (gate-unique g f small (subst AreSmall same hk) (sym e ∙ whole)) fine)

pub record NextGate (n : ℕ) (lines : List (List ℕ)) : Type 0 where
  pub gate : Gate
  pub more : List (List ℕ)
  pub fine : IsFine n gate
  pub small : AreSmall (gate_numbers gate)
  pub left : lines ≡ gate_line gate ∷ more

pub next_gate : (n : ℕ) (bs gs : List Gate) (lines rest : List (List ℕ)) → length bs < length gs → AllByRecursion (IsFine n) gs → AreSmall (flat_map gate_numbers gs) →
    map gate_line bs ++ lines ≡ map gate_line gs ++ rest → NextGate n lines
next_gate n bs [] lines rest lt fine small e = absurd (omega (arith, lt))
next_gate n [] (g ∷ gs) lines rest lt fine small e =
    record { gate = g; more = map gate_line gs ++ rest; fine = fine.0; small = (small-split (gate_numbers g) (flat_map gate_numbers gs) small).0; left = e }
next_gate n (b ∷ bs) (g ∷ gs) lines rest lt fine small e =
    let t : map gate_line bs ++ lines ≡ map gate_line gs ++ rest = cc in
    next_gate n bs gs lines rest (omega (arith, lt)) fine.1 (small-split (gate_numbers g) (flat_map gate_numbers gs) small).1 t

pub gates-pushed : (text lines rest : List (List ℕ)) (gs hs : List Gate) (g : Gate) (line : List ℕ) → text ≡ map gate_line gs ++ lines → lines ≡ line ∷ rest → line ≡ gate_line g → hs ≡ gs ++ g ∷ [] →
    text ≡ map gate_line hs ++ rest
gates-pushed text lines rest gs hs g line e is same pushed =
    e
    ∙ ap (λ l. map gate_line gs ++ l) (is ∙ ap (λ l. l ∷ rest) same)
    ∙ sym (append_assoc (map gate_line gs) (gate_line g ∷ []) rest)
    ∙ ap (λ l. l ++ rest) (sym (map-append gate_line gs (g ∷ [])))
    ∙ ap (λ l. map gate_line l ++ rest) (sym pushed)

gate-small : (n : ℕ) → n ≤ most_wires → (g : Gate) → IsFine n g → AreSmall (gate_numbers g)
gate-small n few (H q) f = (omega (arith, f), tt)
gate-small n few (X q) f = (omega (arith, f), tt)
gate-small n few (P k q) f = (omega (arith, f.1.1), (omega (arith, f.0), tt))
gate-small n few (Cx c t) f = (omega (arith, f.0), (omega (arith, f.1.0), tt))

small-append : (a b : List ℕ) → AreSmall a → AreSmall b → AreSmall (a ++ b)
small-append [] b h g = g
small-append (k ∷ a) b h g = (h.0, small-append a b h.1 g)

pub fine-small : (n : ℕ) → n ≤ most_wires → (gs : List Gate) → AllByRecursion (IsFine n) gs → AreSmall (flat_map gate_numbers gs)
fine-small n few [] fine = tt
fine-small n few (g ∷ gs) fine = small-append (gate_numbers g) (flat_map gate_numbers gs) (gate-small n few g fine.0) (fine-small n few gs fine.1)
