-- Words that are told apart from the reserved ones by their first two bytes.
--   unlike           such a word isn't a word that isn't so
--   name_symbol      it is a name
--   pi_word          the word pi is reserved
use Rattle.std.proofs.Common.{◌≡◌, ℕ, Bool, true, false, List, refl, sym, ap, ◌∙◌, None, Some, codes}
use Rattle.std.specs.Str.{bytes_eq}
use Rattle.std.proofs.lemmas.Slice.Eq.{bytes_eq-Decides}
use Rattle.qasm_parser.specs.Symbols.{function_of, keyword_of, name, word_symbol, Symbol}
use Rattle.qasm_parser.specs.Views.{may_be_reserved}
use Rattle.qasm_parser.specs.declared.symbols.Keyword.TheVariants.{Pi}

unlike : (w v : List ℕ) → may_be_reserved w ≡ false → may_be_reserved v ≡ true → bytes_eq w v ≡ false
unlike w v h k = by_test (bytes_eq w v) refl
  where
    by_test : (b : Bool) → bytes_eq w v ≡ b → b ≡ false
    by_test true e = absurd (let f = ap (λ (z : List ℕ). may_be_reserved z) ((bytes_eq-Decides w v).0 e) in cc)
    by_test false e = refl

no_keyword : (w : List ℕ) → may_be_reserved w ≡ false → keyword_of w ≡ None
unfolding may_be_reserved
no_keyword w h =
    rw (unlike w (codes "OPENQASM") h refl, unlike w (codes "include") h refl, unlike w (codes "qreg") h refl, unlike w (codes "creg") h refl, unlike w (codes "gate") h refl, unlike w (codes "opaque") h refl, unlike w (codes "measure") h refl, unlike w (codes "reset") h refl, unlike w (codes "if") h refl, unlike w (codes "barrier") h refl, unlike w (codes "pi") h refl, unlike w (codes "U") h refl, unlike w (codes "CX") h refl) refl

no_function : (w : List ℕ) → may_be_reserved w ≡ false → function_of w ≡ None
unfolding may_be_reserved
no_function w h =
    rw (unlike w (codes "sin") h refl, unlike w (codes "cos") h refl, unlike w (codes "tan") h refl, unlike w (codes "exp") h refl, unlike w (codes "ln") h refl, unlike w (codes "sqrt") h refl) refl

pub name_symbol : (w : List ℕ) → may_be_reserved w ≡ false → name w ≡ word_symbol w (keyword_of w)
unfolding word_symbol
name_symbol w h = rw (no_keyword w h, no_function w h) refl

pub pi_word : (w : List ℕ) → bytes_eq w (codes "pi") ≡ true → keyword_of w ≡ Some Pi
pi_word w h = ap (λ (z : List ℕ). keyword_of z) ((bytes_eq-Decides w (codes "pi")).0 h)
