-- What the code's values are.
--     ring_of v, amp_ring a   a value, and that of an entry
use Rattle.unitary_model.specs.Ring.{Ring, ring}
use Rattle.amplitude_exact.specs.declared.values.Value.{Value}
use Rattle.amplitude_exact.specs.declared.halving.Amp.{Amp}

abbrev pub ring_of : Value → Ring
ring_of v = ring v.a v.b v.c v.d

abbrev pub amp_ring : Amp → Ring
amp_ring v = ring v.a v.b v.c v.d
