-- The totals of the first parameters.
use Rattle.linear_forms.specs.Linear.{AreSoFar}
use Rattle.linear_forms.proofs.form.Form.added_up.Given as goal

abbrev pub invariant-factors : goal.invariant-factors
invariant-factors l = AreSoFar l.self l.d l.params l.i l.totals
