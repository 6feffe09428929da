-- Names of the language as the grammar's tests see them.
--   IsFreeWord-name     each name of the language is a free word
--   IsName-underscores  `q` and underscores is a name of the language
use Rattle.std.proofs.Common.{◌≡◌, inl, inr, ℕ, zero, suc, Bool, true, false, ◌||◌, List, [], ◌∷◌, None, refl, sym, ap, ◌∙◌, subst, codes, replicate}
use Rattle.std.specs.Bool.{Decides}
use Rattle.std.specs.Char.{is_ascii_lowercase}
use Rattle.std.specs.List.{list_all, list_any}
use Rattle.std.specs.Str.{bytes_eq}
use Rattle.std.proofs.lemmas.Slice.Eq.{bytes_eq-Decides}
use Rattle.qasm_lexer.specs.Forms.{Bytes, Each, OneOf, is_word_byte}
use Rattle.qasm_lexer.specs.Names.{IsName, reserved}
use Rattle.qasm_parser.specs.Symbols.{function_of, keyword_of}
use Rattle.qasm_writer.specs.Texts.{with_underscores}
use Rattle.qasm_writer.specs.Words.{IsFreeWord, is_small_word}

all_of : (w : Bytes) → Each is_word_byte w → list_all is_word_byte w ≡ true
all_of [] h = refl
all_of (b ∷ w) h = rw (h.0, all_of w h.1) refl

small_of : (w : Bytes) → IsName w → is_small_word w ≡ true
small_of w n =
    let shown : is_small_word (n.first ∷ n.more) ≡ true = rw (n.small, all_of n.more n.each) refl in
    subst (λ (x : Bytes). is_small_word x ≡ true) (sym n.word) shown

-- a test of equality that fails
unlike : (w v : Bytes) → (w ≡ v → ⊥) → bytes_eq w v ≡ false
unlike w v h = go (bytes_eq w v) (bytes_eq-Decides w v)
  where
    go : (b : Bool) → Decides b (w ≡ v) → b ≡ false
    go true d = absurd (h (d.0 refl))
    go false d = refl

-- no name is one of these
no_capital : (w v : Bytes) (b : ℕ) (rest : Bytes) → IsName w → v ≡ b ∷ rest → is_ascii_lowercase b ≡ false → bytes_eq w v ≡ false
no_capital w v b rest n e big = unlike w v (λ same.
    let heads : n.first ∷ n.more ≡ b ∷ rest = sym n.word ∙ same ∙ e in
    let first : n.first ≡ b = cc in
    let both : true ≡ false = sym n.small ∙ ap is_ascii_lowercase first ∙ big in cc)

keyword_none : (w : Bytes) → IsName w → keyword_of w ≡ None
keyword_none w n =
    let a = no_capital w (codes "OPENQASM") 79 (codes "PENQASM") n refl refl in
    let b = unlike w (codes "include") (λ e. n.free (inl e)) in
    let c = unlike w (codes "qreg") (λ e. n.free (inr (inl e))) in
    let d = unlike w (codes "creg") (λ e. n.free (inr (inr (inl e)))) in
    let e = unlike w (codes "gate") (λ e. n.free (inr (inr (inr (inl e))))) in
    let f = unlike w (codes "opaque") (λ e. n.free (inr (inr (inr (inr (inl e)))))) in
    let g = unlike w (codes "measure") (λ e. n.free (inr (inr (inr (inr (inr (inl e))))))) in
    let h = unlike w (codes "reset") (λ e. n.free (inr (inr (inr (inr (inr (inr (inl e)))))))) in
    let i = unlike w (codes "if") (λ e. n.free (inr (inr (inr (inr (inr (inr (inr (inl e))))))))) in
    let j = unlike w (codes "barrier") (λ e. n.free (inr (inr (inr (inr (inr (inr (inr (inr (inl e)))))))))) in
    let k = unlike w (codes "pi") (λ e. n.free (inr (inr (inr (inr (inr (inr (inr (inr (inr (inl e))))))))))) in
    let l = no_capital w (codes "U") 85 [] n refl refl in
    let m = no_capital w (codes "CX") 67 (codes "X") n refl refl in
    rw (a, b, c, d, e, f, g, h, i, j, k, l, m) refl

function_none : (w : Bytes) → IsName w → function_of w ≡ None
function_none w n =
    let past : OneOf (codes "sin" ∷ codes "cos" ∷ codes "tan" ∷ codes "exp" ∷ codes "ln" ∷ codes "sqrt" ∷ []) w → ⊥ =
    (λ x. n.free (inr (inr (inr (inr (inr (inr (inr (inr (inr (inr x))))))))))) in
    let a = unlike w (codes "sin") (λ e. past (inl e)) in
    let b = unlike w (codes "cos") (λ e. past (inr (inl e))) in
    let c = unlike w (codes "tan") (λ e. past (inr (inr (inl e)))) in
    let d = unlike w (codes "exp") (λ e. past (inr (inr (inr (inl e))))) in
    let f = unlike w (codes "ln") (λ e. past (inr (inr (inr (inr (inl e)))))) in
    let g = unlike w (codes "sqrt") (λ e. past (inr (inr (inr (inr (inr (inl e))))))) in
    rw (a, b, c, d, f, g) refl

pub IsFreeWord-name : (w : Bytes) → IsName w → IsFreeWord w
IsFreeWord-name w n = record { word = small_of w n; free = keyword_none w n; no_function = function_none w n }

-- ---- underscores
or_left : (a b : Bool) → (a || b) ≡ false → a ≡ false
or_left true b e = e
or_left false b e = refl

or_right : (a b : Bool) → (a || b) ≡ false → b ≡ false
or_right true b e = cc
or_right false b e = e

none_of : (vs : List Bytes) (w : Bytes) → list_any (λ v. bytes_eq w v) vs ≡ false → OneOf vs w → ⊥
none_of [] w e h = h
none_of (v ∷ vs) w e (inl same) =
    absurd (let both : true ≡ false = sym ((bytes_eq-Decides w v).1 same) ∙ or_left (bytes_eq w v) _ e in cc)
none_of (v ∷ vs) w e (inr later) = none_of vs w (or_right (bytes_eq w v) _ e) later

underscores_each : (k : ℕ) → Each is_word_byte (replicate k 95)
underscores_each zero = tt
underscores_each (suc k) = (refl, underscores_each k)

underscores_free : (k : ℕ) → list_any (λ v. bytes_eq (with_underscores k) v) reserved ≡ false
underscores_free zero = refl
underscores_free (suc k) = refl

pub IsName-underscores : (k : ℕ) → IsName (with_underscores k)
IsName-underscores k = record {
  first = 113;
  more = replicate k 95;
  word = refl;
  small = refl;
  each = underscores_each k;
  free = none_of reserved (with_underscores k) (underscores_free k);
}
