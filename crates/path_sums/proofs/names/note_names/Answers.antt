-- From no gate to all.
use Rattle.std.proofs.Common.{◌≡◌, ◌++◌, ◌∙◌, ap, arith, drop, length, take}
use Rattle.std.specs.Prelude.{nat_eq}
use Rattle.std.proofs.Math.Path.{fun_ext}
use Rattle.indexmap.specs.IndexSet.{insert_all}
use Rattle.path_parity.specs.NamedSums.{seen_after, unseen}
use Rattle.path_sums.specs.Names.{counts, place_in, seen_last, variable, variables_of}
use Rattle.path_sums.proofs.CountLaws.{noted-end, noted-more, seen-end, seen-more, written-back}
use Rattle.path_sums.proofs.TouchedLaws.{touched-at}
use Rattle.path_sums.proofs.names.note_names.Goals as goal

pub gates-init : goal.gates-init
gates-init c =
    let ws = c.args.touched.now.keys in
    let none : counts ws c.in_ok-seen.seen.items ≡ unseen = fun_ext (λ q. c.in_ok-seen.ensures.none (place_in ws q)) in
    record {
      wires = c.in_ok-seen.ensures.wires ∙ c.len.ensures.len;
      seen = ap (seen_last c.args.body.now.gates) none;
      names = ap (λ s. insert_all nat_eq c.args.names.now.keys (variables_of c.args.body.now.wires c.args.body.now.gates s)) none;
    }

pub gates-preserved : goal.gates-preserved
gates-preserved c =
    let n = c.args.body.now.wires in
    let gs = c.args.body.now.gates in
    let g = c.gate.result in
    let ws = c.args.touched.now.keys in
    let now = c.note_name.new.seen in
    let here = c.deref_mut.ensures.value in
    let long : length now ≡ length c.gates.seen.items = c.note_name.ensures.long ∙ ap length here in
    let after = take c.gates.seen.len (now ++ drop (length now) c.gates.seen.items) in
    let back : after ≡ now = written-back now c.gates.seen.items c.gates.seen.len long (omega (arith, c.deref_mut.ensures.len, ap length here)) in
    let seen : counts ws after ≡ seen_after g (counts ws c.gates.seen.items) = ap (counts ws) back ∙ c.in_ok-note_name.ensures.seen ∙ ap (λ xs. seen_after g (counts ws xs)) here in
    record {
      wires = ap length back ∙ long ∙ c.gates.invariant.wires;
      seen = seen-more gs c.gates.place g (counts ws c.gates.seen.items) (counts ws after) (seen_last gs unseen) c.gate.ensures.there seen c.gates.invariant.seen;
      names = noted-more n gs c.gates.place g c.gates.names.keys c.note_name.new.names.keys (insert_all nat_eq c.args.names.now.keys (variables_of n gs unseen)) (counts ws c.gates.seen.items) (counts ws after)
          c.gate.ensures.there seen (c.in_ok-note_name.ensures.names ∙ (λ i. insert_all nat_eq c.gates.names.keys (variable (c.wires.ensures.wires i) g (counts ws (here i))))) c.gates.invariant.names;
    }

pub returns-clause-seen : goal.returns-clause-seen
returns-clause-seen c = seen-end c.args.body.now.gates c.gates.place (counts c.args.touched.now.keys c.gates.seen.items) (seen_last c.args.body.now.gates unseen) (omega arith) c.gates.invariant.seen

pub returns-clause-names : goal.returns-clause-names
returns-clause-names c = noted-end c.args.body.now.wires c.args.body.now.gates c.gates.place c.gates.names.keys (insert_all nat_eq c.args.names.now.keys (variables_of c.args.body.now.wires c.args.body.now.gates unseen)) (counts c.args.touched.now.keys c.gates.seen.items) (omega arith) c.gates.invariant.names

pub note_name-requires-clause-touched : goal.note_name-requires-clause-touched
note_name-requires-clause-touched c = touched-at c.args.touched.now.keys c.args.body.now.gates c.gates.place c.gate.result c.gate.ensures.there c.requires
