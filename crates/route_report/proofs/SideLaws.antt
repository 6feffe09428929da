-- The object of a refusal of one of two texts is that of the refusal, with the side's word put in.
--   IsSided side d v  v is d with the word put in
--   plain-sided, place-sided, statement-sided
--                     the object of each of the three faults is such a one
use Rattle.std.proofs.Common.{◌≡◌, ℕ, ap, codes, sym, ◌∙◌}
use Rattle.serde_json.proofs.OnLiterals.{serde_json_on_literals}
use Rattle.serde_json.specs.Data.{Data, Members, object, put, string}
use Rattle.route_report.specs.declared.faults.Fault.{Fault}
use Rattle.route_report.specs.declared.faults.Fault.TheVariants as fault
use Rattle.route_report.specs.declared.faults.Side.{Side}
use Rattle.route_report.specs.Faults.{fault_data, side_word}

abbrev pub IsSided : Side → Data → Data → Type 0
IsSided side d v = (ms : Members) → d ≡ object ms → v ≡ object (put (codes "text") (string (side_word side)) ms)

pub plain-sided : (f : Fault) (code : ℕ) (side : Side) (d v : Data) → f ≡ fault.TextPlain code side → d ≡ fault_data (fault.Plain code)
    → IsSided side d v → v ≡ fault_data f
unfolding serde_json_on_literals
plain-sided f code side d v is e h = h _ e ∙ ap fault_data (sym is)

pub place-sided : (f : Fault) (code place : ℕ) (side : Side) (d v : Data) → f ≡ fault.TextPlace code place side → d ≡ fault_data (fault.Place code place)
    → IsSided side d v → v ≡ fault_data f
unfolding serde_json_on_literals
place-sided f code place side d v is e h = h _ e ∙ ap fault_data (sym is)

pub statement-sided : (f : Fault) (code statement : ℕ) (side : Side) (d v : Data) → f ≡ fault.TextStatement code statement side
    → d ≡ fault_data (fault.Statement code statement) → IsSided side d v → v ≡ fault_data f
unfolding serde_json_on_literals
statement-sided f code statement side d v is e h = h _ e ∙ ap fault_data (sym is)
