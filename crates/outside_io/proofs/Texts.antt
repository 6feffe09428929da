-- What is told of a text that was loaded.
--   loaded_long                    a text that came with one byte past the limit is too long
--   loaded_whole                   a text that came within the limit is the one that is told
-- And for callers, on what is told and what is not:
--   Tells-longer                   input that is too long is a text that is too long
--   Tells-told, TellsText-told     what is told is the text
--   HasNoText-told                 a name that is told to have a text has one
use Rattle.std.proofs.Common.{◌≡◌, ℕ, ◌+◌, ◌<◌, ◌≤◌, List, Option, Some, None, length, replicate, take, refl, sym, arith, ◌∙◌}
use Rattle.std.proofs.lemmas.Grind.{common_steps}
use Rattle.outside_io.specs.Bytes.{IsLongerThan, Tells}
use Rattle.outside_io.specs.Shelf.{HasNoText, LoadsText, TellsText, IsTooLong}

pub loaded_long : (content : Option (Option (List ℕ))) (max : ℕ) (into : List ℕ) → LoadsText content max into
    → max < length into → IsTooLong content max
loaded_long None max into l h = (into, tt, h)
loaded_long (Some None) max into l h = absurd l
loaded_long (Some (Some text)) max into l h =
    let long : max < length text = grind (arith, common_steps) in
    (text, refl, long)

pub loaded_whole : (content : Option (Option (List ℕ))) (max : ℕ) (into : List ℕ) → LoadsText content max into
    → length into ≤ max → TellsText content into
loaded_whole None max into l h = tt
loaded_whole (Some None) max into l h = absurd l
loaded_whole (Some (Some text)) max into l h =
    let short : length text ≤ max = grind (arith, common_steps) in
    let whole : take (max + 1) text ≡ text = grind (arith, common_steps) in
    let same : text ≡ into = sym (l ∙ whole) in
    rw same refl

pub ruleset texts = (loaded_long, loaded_whole)

pub Tells-longer : (input : Option (List ℕ)) (max : ℕ) → IsLongerThan input max → (text : List ℕ) × Tells input text × (max < length text)
Tells-longer None max h =
    let long : max < length (replicate (max + 1) 0) = grind (arith, common_steps) in
    (replicate (max + 1) 0, tt, long)
Tells-longer (Some text) max h = (text, refl, h)

pub Tells-told : (input : Option (List ℕ)) (told text : List ℕ) → input ≡ Some told → Tells input text → told ≡ text
Tells-told None told text e h = cc
Tells-told (Some x) told text e h = cc

pub TellsText-told : (content : Option (Option (List ℕ))) (told text : List ℕ) → content ≡ Some (Some told)
    → TellsText content text → told ≡ text
TellsText-told None told text e h = cc
TellsText-told (Some x) told text e h = cc

pub HasNoText-told : (content : Option (Option (List ℕ))) (told : List ℕ) → content ≡ Some (Some told) → HasNoText content → ⊥
HasNoText-told None told e h = cc
HasNoText-told (Some x) told e h = cc
