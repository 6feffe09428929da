-- Working form. The forms of the grammar, each named as what reads it (`arg_shape` is that of `arg_of`).
--   list_shape       one at least, with commas between
--   bracketed_shape, index_shape, arg_shape, args_shape   numbers and arguments
--   angles_shape, optional_shape, u_shape, head_shape, application_shape   applications
--   measure_shape, reset_shape, action_shape   actions; a barrier has that of its arguments
--   item_shape, body_shape   a line of a gate's body; the lines up to the brace
--   listed_shape, params_shape, names_shape, gate_shape, opaque_shape   gates
--   include_shape, register_shape, conditional_shape, statement_shape   statements
--   version_shape, header_shape, tree_shape   programs
use Rattle.std.specs.Prelude.{Bool, true, false}
use Rattle.qasm_parser.specs.declared.symbols.Keyword.TheVariants.{OpenQasm, Include, Qreg, Creg, Gate, Opaque, Measure, Reset, If, Barrier, U, Cx}
use Rattle.qasm_parser.specs.declared.symbols.Mark.TheVariants.{Semicolon, Comma, Open, Close, OpenBracket, CloseBracket, OpenBrace, CloseBrace, Arrow, Equals}
use Rattle.qasm_parser.specs.Ways.{Shape, nothing, one, sequel, choice, many, until, sum, this_mark, this_word, a_name, a_whole, a_real, a_text, the_end}

abbrev pub list_shape : Shape → Shape
list_shape each = sequel each (many (this_mark Comma) each)

-- ---- names and arguments
unfoldable pub bracketed_shape : Shape
bracketed_shape = sequel (one a_whole) (one (this_mark CloseBracket))

abbrev pub index_shape : Bool → Shape
index_shape true = nothing
index_shape false = choice (this_mark OpenBracket) bracketed_shape nothing

unfoldable pub arg_shape : Bool → Shape
arg_shape plain = sequel (one a_name) (index_shape plain)

unfoldable pub args_shape : Bool → Shape
args_shape plain = sequel (list_shape (arg_shape plain)) (one (this_mark Semicolon))

-- ---- applications
unfoldable pub angles_shape : Shape
angles_shape = sequel (list_shape sum) (one (this_mark Close))

unfoldable pub optional_shape : Shape
optional_shape = choice (this_mark Open) (choice (this_mark Close) nothing angles_shape) nothing

unfoldable pub u_shape : Shape
u_shape = sequel (one (this_mark Open)) angles_shape

unfoldable pub head_shape : Shape
head_shape = choice (this_word U) u_shape (choice (this_word Cx) nothing (sequel (one a_name) optional_shape))

unfoldable pub application_shape : Bool → Shape
application_shape plain = sequel head_shape (args_shape plain)

-- ---- from behind the word
unfoldable pub measure_shape : Shape
measure_shape = sequel (arg_shape false) (sequel (one (this_mark Arrow)) (sequel (arg_shape false) (one (this_mark Semicolon))))

unfoldable pub reset_shape : Shape
reset_shape = sequel (arg_shape false) (one (this_mark Semicolon))

-- ---- actions
unfoldable pub action_shape : Shape
action_shape = choice (this_word Measure) measure_shape (choice (this_word Reset) reset_shape (application_shape false))

unfoldable pub item_shape : Shape
item_shape = choice (this_word Barrier) (args_shape true) (application_shape true)

unfoldable pub body_shape : Shape
body_shape = sequel (until (this_mark CloseBrace) item_shape) (one (this_mark CloseBrace))

-- ---- gates, from behind the word
unfoldable pub listed_shape : Shape
listed_shape = sequel (list_shape (one a_name)) (one (this_mark Close))

unfoldable pub params_shape : Shape
params_shape = choice (this_mark Open) (choice (this_mark Close) nothing listed_shape) nothing

unfoldable pub names_shape : Shape
names_shape = sequel (one a_name) (sequel params_shape (list_shape (one a_name)))

unfoldable pub gate_shape : Shape
gate_shape = sequel names_shape (sequel (one (this_mark OpenBrace)) body_shape)

unfoldable pub opaque_shape : Shape
opaque_shape = sequel names_shape (one (this_mark Semicolon))

-- ---- other statements, from behind the word
unfoldable pub include_shape : Shape
include_shape = sequel (one a_text) (one (this_mark Semicolon))

unfoldable pub register_shape : Shape
register_shape = sequel (one a_name) (sequel (one (this_mark OpenBracket)) (sequel bracketed_shape (one (this_mark Semicolon))))

unfoldable pub conditional_shape : Shape
conditional_shape =
    sequel (one (this_mark Open)) (sequel (one a_name) (sequel (one (this_mark Equals)) (sequel (one a_whole) (sequel (one (this_mark Close)) action_shape))))

-- ---- programs
unfoldable pub statement_shape : Shape
statement_shape =
    choice (this_word Include) include_shape
    (choice (this_word Qreg) register_shape
    (choice (this_word Creg) register_shape
    (choice (this_word Gate) gate_shape
    (choice (this_word Opaque) opaque_shape
    (choice (this_word If) conditional_shape
    (choice (this_word Barrier) (args_shape false) action_shape))))))

unfoldable pub version_shape : Shape
version_shape = sequel (one a_real) (one (this_mark Semicolon))

unfoldable pub header_shape : Shape
header_shape = sequel (one (this_word OpenQasm)) version_shape

unfoldable pub tree_shape : Shape
tree_shape = sequel header_shape (until the_end statement_shape)
