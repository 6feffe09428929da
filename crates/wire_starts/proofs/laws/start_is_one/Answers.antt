use Rattle.wire_starts.proofs.OnceLaws.{start-one}
use Rattle.wire_starts.proofs.laws.start_is_one.Goals as goal

pub returns : goal.returns
returns c = record { one = start-one (λ es a b j k. c.distance_is_one.ensures.one es (λ x y. 1) a b j k) c.hops_exist.ensures.exist }
