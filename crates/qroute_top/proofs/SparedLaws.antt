-- A circuit whose layers were written anew with spare wires stands for the source.
--   Plain, Chains, Entries, Fine, FewTs    laws of circuits and of spare wires, as they are handed in
--   IsSparedTarget-made   a target with spare wires stands for the source
use Rattle.std.proofs.Common.{◌≡◌, ℕ, ◌+◌, ◌%◌, ◌<◌, ◌≤◌, All, List, ◌∷◌, Some, None, arith, map, refl, sym, subst, ap, ◌∙◌, []}
use Rattle.std.specs.List.{AllByRecursion}
use Rattle.std.proofs.lemmas.List.Elements.{All-from_recursion, recursion_from_All}
use Rattle.circuit_list.specs.declared.Gate.{Gate}
use Rattle.circuit_list.specs.declared.Passed.{Passed}
use Rattle.circuit_list.specs.Gates.{IsFine, ops}
use Rattle.gate_inline.specs.Programs.{Program}
use Rattle.phase_poly.specs.Replaced.{AreFine}
use Rattle.spare_layers.specs.Spared.{IsSpared}
use Rattle.spare_layers.specs.SparedLayers.{IsSparedCircuit}
use Rattle.unitary_model.specs.declared.Op.{Op}
use Rattle.unitary_model.specs.Operations.{IsPlain, t_count}
use Rattle.unitary_model.specs.Placement.{identity}
use Rattle.unitary_model.specs.SameUpTo.{SameUpTo}
use Rattle.unitary_model.proofs.RealisesLaws.{Realises_same}
use Rattle.circuit_target.specs.Standing.{placed_read}
use Rattle.qroute_top.specs.Plans.{IsSparedTarget}
use Rattle.circuit_target.specs.Targets.{IsOptimised}
use Rattle.circuit_target.specs.declared.target.Target.{Target}

abbrev pub Plain : Type 0
Plain = (n : ℕ) (gs : List Gate) → All (IsFine n) gs → All IsPlain (ops gs)

abbrev pub Chains : Type 0
Chains = (S Q R : List Op) (n m i j : ℕ) → i < 8 → SameUpTo i n S Q → IsSpared Q n R m j → IsSpared S n R m ((i + j) % 8)

abbrev pub Entries : Type 0
Entries = (n m t : ℕ) (gs new : List Gate) → AreFine n gs → IsSparedCircuit n m gs new t → IsSpared (ops gs) n (ops new) m t

abbrev pub Fine : Type 0
Fine = (n m t : ℕ) (gs new : List Gate) → AreFine n gs → IsSparedCircuit n m gs new t → AreFine (n + m) new

abbrev pub FewTs : Type 0
FewTs = (n m t : ℕ) (gs new : List Gate) → IsSparedCircuit n m gs new t → t_count (ops new) ≤ t_count (ops gs)

are_fine : (n : ℕ) (gs : List Gate) → AllByRecursion (IsFine n) gs → AreFine n gs
are_fine n [] h = tt
are_fine n (g ∷ gs) h = (h.0, are_fine n gs h.1)

each_fine : (n : ℕ) (gs : List Gate) → AreFine n gs → AllByRecursion (IsFine n) gs
each_fine n [] h = tt
each_fine n (g ∷ gs) h = (h.0, each_fine n gs h.1)

pub IsSparedTarget-made : Plain → Chains → Entries → Fine → FewTs → (s : Program) (m : ℕ) (t : Target) (c : Passed) (change : ℕ) → IsOptimised s.wires s.ops c
    → IsSparedCircuit s.wires m c.body.gates t.body.gates change → t.body.wires ≡ s.wires + m → t.turn ≡ (c.turn + change) % 8
    → t.initial ≡ identity t.body.wires → t.last ≡ identity t.body.wires → t.swaps ≡ 0 → t.cost ≡ None → t.parts ≡ None → t.spares ≡ Some m
    → t.barriers.items ≡ [] → t.trace.items ≡ [] → IsSparedTarget s m t
IsSparedTarget-made plain chains entries fine few s m t c change o layers wires turn initial last swaps cost parts spares barriers trace =
    let n = s.wires in
    let old = c.body.gates in
    let new = t.body.gates in
    let on : AreFine n old = are_fine n old (recursion_from_All (IsFine n) old o.fine) in
    let all = each_fine (n + m) new (fine n m change old new on layers) in
    let spared : IsSpared s.ops n (ops new) m ((c.turn + change) % 8) = chains s.ops (ops old) (ops new) n m c.turn change o.below o.same
    (entries n m change old new on layers) in
    let fewer = few n m change old new layers in record {
      stands = λ told r. record {
        registers = refl;
        plain = plain (n + m) new (All-from_recursion (IsFine (n + m)) new all);
        wires = wires;
        bars = ap (map (λ v. v.items)) barriers;
        entries = subst (IsSpared s.ops n (ops new) m) (sym (r.phase ∙ turn)) spared;
        reads = ap (λ p. map (placed_read p) s.reads) (sym r.last);
        t_gates = omega (arith, fewer, o.t_gates);
        layers = record {
          settled = old;
          turn = c.turn;
          fine = o.fine;
          is_settled = o.settled;
          stands = Realises_same s.ops (ops old) n c.turn o.below o.same;
          gates = new;
          change = change;
          layers = layers;
          written = refl;
        };
      };
      tells = λ told r. record {
        initial = r.initial ∙ initial;
        last = r.last ∙ last;
        swaps = r.swaps ∙ swaps;
        cost = r.cost ∙ cost;
        parts = r.parts ∙ parts;
        spares = r.spares ∙ spares;
      };
      trace = trace;
    }
