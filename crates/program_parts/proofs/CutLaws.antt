-- Lists cut in parts, and what is said of the parts of a program.
--   whole-append, whole-one, whole-map   parts joined, one part, and a map of all
--   length-whole, length-whole_by   the length of the whole is the sum of those of its parts
--   chopped-whole, whole-chopped   a whole is cut back into its parts by their lengths, and the other way round
--   length-chopped       as many parts as lengths
--   sources-whole, targets-whole   the operations of all parts are a whole
--   sources-append, targets-append, ends-append, powers-append, AreRealised-append   parts joined
use Rattle.std.proofs.Common.{◌≡◌, ℕ, ◌+◌, List, [], ◌∷◌, ◌++◌, length, map, take, drop, refl, sym, ap, ◌∙◌, arith, append_assoc, append-nil, length-append, length-drop, take-append-drop, take_at, drop_at}
use Rattle.std.specs.Prelude.{sum_by}
use Rattle.std.proofs.lemmas.List.{map-append, nil_from_length}
use Rattle.std.proofs.lemmas.List.Sums.{sum_by-cons}
use Rattle.program_parts.specs.Cuts.{chopped, whole}
use Rattle.program_parts.specs.Parts.{AreRealised, Part, ends, powers, sources, targets}

pub whole-append : {A : Type 0} (xss yss : List (List A)) → whole (xss ++ yss) ≡ whole xss ++ whole yss
whole-append [] yss = refl
whole-append (xs ∷ xss) yss = ap (λ zs. xs ++ zs) (whole-append xss yss) ∙ sym (append_assoc xs (whole xss) (whole yss))

pub whole-one : {A : Type 0} (xs : List A) → whole (xs ∷ []) ≡ xs
whole-one xs = append-nil xs

pub whole-map : {A B : Type 0} (f : A → B) (xss : List (List A)) → map f (whole xss) ≡ whole (map (map f) xss)
whole-map f [] = refl
whole-map f (xs ∷ xss) = map-append f xs (whole xss) ∙ ap (λ zs. map f xs ++ zs) (whole-map f xss)

pub length-whole : {A : Type 0} (xss : List (List A)) → length (whole xss) ≡ sum_by (λ n. n) (map length xss)
length-whole [] = refl
length-whole (xs ∷ xss) =
    omega (arith, length-append xs (whole xss), length-whole xss, sum_by-cons (λ (n : ℕ). n) (length xs) (map length xss))

pub length-whole_by : {A : Type 0} (xss : List (List A)) → length (whole xss) ≡ sum_by length xss
length-whole_by [] = refl
length-whole_by {A} (xs ∷ xss) =
    omega (arith, length-append xs (whole xss), length-whole_by xss, sum_by-cons (length {A = A}) xs xss)

pub chopped-whole : {A : Type 0} (xss : List (List A)) → chopped (map length xss) (whole xss) ≡ xss
chopped-whole [] = refl
chopped-whole (xs ∷ xss) =
    ap (λ zs. zs ∷ chopped (map length xss) (drop (length xs) (xs ++ whole xss))) (take_at xs (whole xss) (length xs) refl)
    ∙ ap (λ zs. xs ∷ chopped (map length xss) zs) (drop_at xs (whole xss) (length xs) refl)
    ∙ ap (λ zss. xs ∷ zss) (chopped-whole xss)

pub length-chopped : {A : Type 0} (ns : List ℕ) (xs : List A) → length (chopped ns xs) ≡ length ns
length-chopped [] xs = refl
length-chopped (n ∷ ns) xs = omega (arith, length-chopped ns (drop n xs))

pub whole-chopped : {A : Type 0} (ns : List ℕ) (xs : List A) → sum_by (λ n. n) ns ≡ length xs → whole (chopped ns xs) ≡ xs
whole-chopped [] xs e = sym (nil_from_length xs (sym e))
whole-chopped (n ∷ ns) xs e =
    let rest = whole-chopped ns (drop n xs) (omega (arith, e, sum_by-cons (λ (n : ℕ). n) n ns, length-drop n xs)) in
    ap (λ zs. take n xs ++ zs) rest ∙ take-append-drop n xs

pub sources-whole : (parts : List Part) → sources parts ≡ whole (map (λ (p : Part). p.source) parts)
sources-whole [] = refl
sources-whole (p ∷ parts) = ap (λ us. p.source ++ us) (sources-whole parts)

pub targets-whole : (parts : List Part) → targets parts ≡ whole (map (λ (p : Part). p.target) parts)
targets-whole [] = refl
targets-whole (p ∷ parts) = ap (λ us. p.target ++ us) (targets-whole parts)

pub sources-append : (ps qs : List Part) → sources (ps ++ qs) ≡ sources ps ++ sources qs
sources-append [] qs = refl
sources-append (p ∷ ps) qs =
    ap (λ us. p.source ++ us) (sources-append ps qs) ∙ sym (append_assoc p.source (sources ps) (sources qs))

pub targets-append : (ps qs : List Part) → targets (ps ++ qs) ≡ targets ps ++ targets qs
targets-append [] qs = refl
targets-append (p ∷ ps) qs =
    ap (λ us. p.target ++ us) (targets-append ps qs) ∙ sym (append_assoc p.target (targets ps) (targets qs))

pub ends-append : (first : List ℕ) (ps qs : List Part) → ends first (ps ++ qs) ≡ ends (ends first ps) qs
ends-append first [] qs = refl
ends-append first (p ∷ ps) qs = ends-append p.last ps qs

pub powers-append : (ps qs : List Part) → powers (ps ++ qs) ≡ powers ps + powers qs
powers-append [] qs = omega arith
powers-append (p ∷ ps) qs = omega (arith, powers-append ps qs)

pub AreRealised-append : (n size : ℕ) (first : List ℕ) (ps qs : List Part) → AreRealised n size first ps
    → AreRealised n size (ends first ps) qs → AreRealised n size first (ps ++ qs)
AreRealised-append n size first [] qs h g = g
AreRealised-append n size first (p ∷ ps) qs h g = (h.0, AreRealised-append n size p.last ps qs h.1 g)
