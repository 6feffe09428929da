-- Working form. Names of the language, as the grammar's tests see them.
--   is_small_word w   a small letter, then letters, digits and underscores
--   IsFreeWord w      such a word that is no reserved word and no function
use Rattle.std.specs.Prelude.{◌≡◌, ℕ, Bool, true, false, ◌&&◌, List, [], ◌∷◌, None}
use Rattle.std.specs.List.{list_all}
use Rattle.std.specs.Char.{is_ascii_lowercase}
use Rattle.qasm_lexer.specs.Forms.{is_word_byte}
use Rattle.qasm_parser.specs.Symbols.{function_of, keyword_of}

abbrev pub is_small_word : List ℕ → Bool
is_small_word [] = false
is_small_word (b ∷ w) = is_ascii_lowercase b && list_all is_word_byte w

pub record IsFreeWord (w : List ℕ) : Type 0 where
  pub word : is_small_word w ≡ true
  pub free : keyword_of w ≡ None
  pub no_function : function_of w ≡ None
