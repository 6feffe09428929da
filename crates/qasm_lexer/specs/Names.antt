-- Names of the language.
--   reserved          the words with a small letter in front that are no names
--   IsName            a small letter, then letters, digits and underscores, and no reserved word
use Rattle.std.specs.Prelude.{◌≡◌, ℕ, true, List, [], ◌∷◌, codes}
use Rattle.std.specs.Char.{is_ascii_lowercase}
use Rattle.qasm_lexer.specs.Forms.{Bytes, Each, OneOf, is_word_byte}

abbrev pub reserved : List Bytes
reserved = codes "include" ∷ codes "qreg" ∷ codes "creg" ∷ codes "gate" ∷ codes "opaque" ∷ codes "measure" ∷ codes "reset"
    ∷ codes "if" ∷ codes "barrier" ∷ codes "pi" ∷ codes "sin" ∷ codes "cos" ∷ codes "tan" ∷ codes "exp" ∷ codes "ln" ∷ codes "sqrt" ∷ []

pub record IsName (w : Bytes) : Type 0 where
  pub first : ℕ
  pub more : Bytes
  pub word : w ≡ first ∷ more
  pub small : is_ascii_lowercase first ≡ true
  pub each : Each is_word_byte more
  pub free : OneOf reserved w → ⊥
