-- One H more on its wire.
use Rattle.std.proofs.Common.{◌≡◌, suc, get_or, set, true, sym, subst, ◌∙◌, ap}
use Rattle.std.specs.Prelude.{nat_eq}
use Rattle.std.specs.List.{list_any}
use Rattle.circuit_list.specs.declared.Gate.{Gate}
use Rattle.path_parity.specs.NamedSums.{seen_after}
use Rattle.path_sums.specs.Names.{IsTouched, counts, place_in}
use Rattle.path_sums.proofs.TouchedLaws.{seen-set}
use Rattle.path_sums.proofs.names.note_name.Goals as goal

pub returns-in_ok-insert-in-H-clause-seen : goal.returns-in_ok-insert-in-H-clause-seen
returns-in_ok-insert-in-H-clause-seen c =
    let ws = c.args.touched.now.keys in
    let xs = c.args.seen.now in
    let q = c.in-H.q in
    let on : list_any (nat_eq q) ws ≡ true = subst (IsTouched ws) c.in-H.is c.requires.touched in
    let place : c.place_in-place.result ≡ place_in ws q = c.place_in-place.ensures.place in
    let more : c.in_ok-more-in-H.more ≡ suc (get_or xs (place_in ws q) 0) = c.in_ok-more-in-H.ensures.seen ∙ ap (λ p. suc (get_or xs p 0)) place in
    (λ i. counts ws (set xs (place i) (more i))) ∙ seen-set ws xs q on c.requires.counted ∙ sym (ap (λ (g : Gate). seen_after g (counts ws xs)) c.in-H.is)
