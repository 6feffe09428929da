-- Forms of a line's angles, and lines of bodies.
--     drop_views      the next of several, and those after it
--     forms_more, forms_all       one form more; all forms
--     first_of, first_none    the first form, and the others; no form
--     bodies_more     the lines of one gate more
--     lines_in        the lines at a number
use Rattle.std.proofs.Common.{◌≡◌, ℕ, suc, ◌+◌, ◌<◌, List, [], ◌∷◌, ◌++◌, Option, Some, IfSome, append_assoc, drop, get_or, length, map, take, slice_get, unwrap_or, sym, ◌∙◌, ap, subst, arith}
use Rattle.std.specs.Option.{option_map}
use Rattle.std.proofs.lemmas.List.{append-nil, map-append, take_more}
use Rattle.std.proofs.lemmas.Option.{slice_get-get_or, slice_get-map}
use Rattle.std.proofs.Math.Seq.{drop-cons}
use Rattle.gate_library.specs.Gates.{Formula}
use Rattle.linear_forms.specs.Linear.{IsForm}
use Rattle.linear_forms.specs.Lines.{AreForms}
use Rattle.linear_forms.specs.declared.form.Form.{Form}

pub drop_views : {X Y : Type 0} (v : X → Y) (xs : List X) (i : ℕ) (x : X) → i < length xs → x ≡ get_or xs i x → map v (drop i xs) ≡ v x ∷ map v (drop (i + 1) xs)
drop_views v xs i x h e =
    let n : suc i ≡ i + 1 = omega arith in
    ap (map v) (drop-cons xs i x h ∙ (λ j. sym e j ∷ drop (n j) xs))

pub forms_more : (fs gs hs : List Formula) (os more : List (Option Form)) (f : Formula) (o : Option Form) → more ≡ os ++ o ∷ [] → gs ≡ f ∷ hs → IfSome o (IsForm f) →
    ((rest : List (Option Form)) → AreForms rest gs → AreForms (os ++ rest) fs) → (rest : List (Option Form)) → AreForms rest hs → AreForms (more ++ rest) fs
forms_more fs gs hs os more f o e g h all rest k =
    let tail : AreForms (o ∷ rest) gs = subst (λ (xs : List Formula). AreForms (o ∷ rest) xs) (sym g) (h, k) in
    subst (λ (xs : List (Option Form)). AreForms xs fs) (sym (append_assoc os (o ∷ []) rest) ∙ ap (λ (xs : List (Option Form)). xs ++ rest) (sym e)) (all (o ∷ rest) tail)

pub forms_all : (fs gs : List Formula) (os : List (Option Form)) → ((rest : List (Option Form)) → AreForms rest gs → AreForms (os ++ rest) fs) → AreForms os fs
forms_all fs gs os h = subst (λ (xs : List (Option Form)). AreForms xs fs) (append-nil os) (h [] tt)

pub first_of : (os rest : List (Option Form)) (o : Option Form) (f : Formula) (fs : List Formula) → os ≡ o ∷ rest → AreForms os (f ∷ fs) → IfSome o (IsForm f) × AreForms rest fs
first_of os rest o f fs e h = subst (λ (xs : List (Option Form)). AreForms xs (f ∷ fs)) e h

pub first_none : (os : List (Option Form)) (fs : List Formula) → os ≡ [] → AreForms os fs
first_none os fs e = subst (λ (xs : List (Option Form)). AreForms xs fs) (sym e) tt

pub bodies_more : {B X Y : Type 0} (v : B → Y) (w : X → Y) (bs more : List B) (xs : List X) (i : ℕ) (b : B) (x : X) → more ≡ bs ++ b ∷ [] → map v bs ≡ map w (take i xs) → v b ≡ w x → i < length xs → x ≡ get_or xs i x →
    map v more ≡ map w (take (i + 1) xs)
bodies_more v w bs more xs i b x e h k less there =
    ap (map v) e ∙ map-append v bs (b ∷ []) ∙ (λ j. h j ++ k j ∷ []) ∙ sym (ap (map w) (take_more xs i x less ∙ ap (λ y. take i xs ++ y ∷ []) (sym there)) ∙ map-append w (take i xs) (x ∷ []))

pub lines_in : {B Y : Type 0} (v : B → List Y) (bs : List B) (i : ℕ) (b : B) (ys : List Y) → i < length bs → b ≡ get_or bs i b → ys ≡ v b → ys ≡ unwrap_or (slice_get (map v bs) i) []
lines_in v bs i b ys less e k =
    k ∙ sym (ap (λ o. unwrap_or o []) (slice_get-map v bs i ∙ ap (option_map v) (slice_get-get_or bs i b less ∙ ap (λ x. Some x) (sym e))))
