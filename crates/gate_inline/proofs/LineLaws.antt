-- Values of a line's angles, and lines of bodies.
--     drop_views      the next of several, and those after it
--     values_more     one value more
--     lines_there     the lines of a gate's body
--     number_there    a gate's number is one of its body's lines
use Rattle.std.proofs.Common.{◌≡◌, ℕ, suc, ◌+◌, ◌<◌, List, [], ◌∷◌, ◌++◌, Option, Some, Result, Ok, Err, append_assoc, drop, get_or, length, map, slice_get, unwrap_or, refl, sym, ◌∙◌, ap, arith}
use Rattle.std.specs.Option.{option_map}
use Rattle.std.proofs.lemmas.List.{length-map}
use Rattle.std.proofs.lemmas.Option.{slice_get-map, slice_get_within}
use Rattle.std.proofs.Math.Seq.{drop-cons}
use Rattle.angle_fraction.specs.declared.Angle.{Angle}
use Rattle.angle_fraction.specs.declared.AngleFault.{AngleFault}
use Rattle.gate_library.specs.Gates.{Formula}
use Rattle.gate_library.specs.declared.gate.BoundGate.{BoundGate}
use Rattle.gate_library.specs.declared.gate.Item.{Item}
use Rattle.linear_forms.specs.Lines.{gate_body}
use Rattle.linear_forms.specs.Values.{and_next, value, values}

pub drop_views : {X Y : Type 0} (v : X → Y) (xs : List X) (i : ℕ) (x : X) → i < length xs → x ≡ get_or xs i x → map v (drop i xs) ≡ v x ∷ map v (drop (i + 1) xs)
drop_views v xs i x h e =
    let n : suc i ≡ i + 1 = omega arith in
    ap (map v) (drop-cons xs i x h ∙ (λ j. sym e j ∷ drop (n j) xs))

pub values_more : (params : List Angle) (all : Result (List Angle) AngleFault) (us more : List Angle) (gs hs : List Formula) (f : Formula) (a : Angle) → all ≡ and_next (values params gs) (λ others. Ok (us ++ others)) → gs ≡ f ∷ hs →
    value params f ≡ Ok a → more ≡ us ++ a ∷ [] → all ≡ and_next (values params hs) (λ others. Ok (more ++ others))
values_more params all us more gs hs f a e g h k =
    e ∙ ap (λ (fs : List Formula). and_next (values params fs) (λ others. Ok (us ++ others))) g
    ∙ ap (λ (r : Result Angle AngleFault). and_next (and_next r (λ x. and_next (values params hs) (λ others. Ok (x ∷ others)))) (λ others. Ok (us ++ others))) h
    ∙ by_rest us a (values params hs)
    ∙ ap (λ (vs : List Angle). and_next (values params hs) (λ others. Ok (vs ++ others))) (sym k)
  where
    by_rest : (us : List Angle) (a : Angle) (r : Result (List Angle) AngleFault) → and_next (and_next r (λ others. Ok (a ∷ others))) (λ others. Ok (us ++ others)) ≡ and_next r (λ others. Ok ((us ++ a ∷ []) ++ others))
    by_rest us a (Ok os) = ap (λ vs. Ok vs) (sym (append_assoc us (a ∷ []) os))
    by_rest us a (Err e) = refl

pub lines_there : (gates : List BoundGate) (bodies : List (List Item)) (i : ℕ) (g : BoundGate) (lines : List Item) → bodies ≡ map gate_body gates → slice_get gates i ≡ Some g → lines ≡ unwrap_or (slice_get bodies i) [] → lines ≡ gate_body g
lines_there gates bodies i g lines e s h =
    h ∙ ap (λ (xs : List (List Item)). unwrap_or (slice_get xs i) []) e
    ∙ ap (λ (o : Option (List Item)). unwrap_or o []) (slice_get-map gate_body gates i ∙ ap (option_map gate_body) s)

pub number_there : {B X Y : Type 0} (v : B → Y) (w : X → Y) (bs : List B) (xs : List X) (i : ℕ) (x : X) → map v bs ≡ map w xs → slice_get xs i ≡ Some x → i < length bs
number_there v w bs xs i x e h =
    let same : length bs ≡ length xs = sym (length-map bs v) ∙ ap length e ∙ length-map xs w in
    let within = slice_get_within xs i x h in
    omega (arith, same, within)
