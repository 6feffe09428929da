-- Names of the language.
--   name_ascii       each byte of a name is ASCII
use Rattle.std.proofs.Common.{◌≡◌, ℕ, ◌<◌, true, [], ◌∷◌, sym, subst, arith, All}
use Rattle.std.specs.Char.{is_ascii_lowercase}
use Rattle.std.proofs.lemmas.Bool.Decides.{nat_tests}
use Rattle.std.specs.Str.{IsAscii}
use Rattle.std.proofs.lemmas.Str.Ascii.{IsAscii-from_all}
use Rattle.std.proofs.lemmas.List.Elements.{All-cons, All-nil}
use Rattle.qasm_lexer.specs.Forms.{Bytes, Each, is_word_byte}
use Rattle.qasm_lexer.specs.Names.{IsName}

word_byte : (b : ℕ) → is_word_byte b ≡ true → b < 128
word_byte b h = grind (arith, nat_tests)

small_byte : (b : ℕ) → is_ascii_lowercase b ≡ true → b < 128
small_byte b h = grind (arith, nat_tests)

each_byte : (w : Bytes) → Each is_word_byte w → All (λ b. b < 128) w
each_byte [] h = All-nil (λ b. b < 128)
each_byte (b ∷ w) h = All-cons (λ b. b < 128) b w (word_byte b h.0) (each_byte w h.1)

all_bytes : (w : Bytes) → IsName w → All (λ b. b < 128) w
all_bytes w h =
    subst (λ (z : Bytes). All (λ b. b < 128) z) (sym h.word) (All-cons (λ b. b < 128) h.first h.more (small_byte h.first h.small) (each_byte h.more h.each))

pub name_ascii : (w : Bytes) → IsName w → IsAscii w
name_ascii w h = IsAscii-from_all w (all_bytes w h)
