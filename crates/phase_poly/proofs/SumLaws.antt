-- A circuit with resynthesised layers is one step of rewriting: it has the path sum of the circuit.
--   resynth_alike       it may stand for the circuit
--   sums_new            so it is a step
use Rattle.std.proofs.Common.{◌≡◌, ℕ, ◌+◌, ◌-◌, ◌%◌, ◌<◌, List, All, refl, sym, subst, arith}
use Rattle.circuit_list.specs.declared.Gate.{Gate}
use Rattle.circuit_list.specs.Gates.{IsFine}
use Rattle.path_parity.specs.NamedSums.{constant_of}
use Rattle.rewrite_pass.specs.Traces.{IsSumsStep}
use Rattle.circuit_layers.specs.Layers.{LayerBody, layers_of, linked}
use Rattle.phase_poly.specs.Replaced.{AreFine, IsReplaced, IsRelinked}
use Rattle.phase_poly.proofs.ListSums.{Alike, alike_trans, alike_same, alike-sums, alike-constants}
use Rattle.phase_poly.proofs.LayerAlike.{replaced_alike}
use Rattle.phase_poly.proofs.LayerLaws.{linked_same}
use Rattle.phase_poly.proofs.PassLaws.{layers_dihedral}
use Rattle.phase_poly.proofs.FineLaws.{fine_of, relinked_fine}

resynth_alike : (n t : ℕ) (gs : List Gate) (ms : List LayerBody) → AreFine n gs → IsReplaced n (layers_of gs) ms t → Alike n t gs (linked ms)
resynth_alike n t gs ms f h = alike_same n (0 + t) t gs (linked ms) (omega arith)
    (alike_trans n 0 t gs (linked (layers_of gs)) (linked ms) ((linked_same gs).alike n f) (replaced_alike n t (layers_of gs) ms (layers_dihedral n gs f) h))

pub sums_new : (n t : ℕ) (gs new : List Gate) → All (IsFine n) gs → IsRelinked n (layers_of gs) new t → t < 8 → IsSumsStep n new gs new t
sums_new n t gs new f h lt =
    let a : Alike n t gs new = subst (Alike n t gs) (sym h.gates) (resynth_alike n t gs h.layers (fine_of n gs f) h.replaced) in record {
      fine = relinked_fine n t gs new f h;
      same = alike-sums n t gs new a;
      becomes = refl;
      turn = go (constant_of n gs) (constant_of n new) (alike-constants n t gs new a);
    }
  where
    go : (a b : ℕ) → (a + t) % 8 ≡ b % 8 → t ≡ (b + (8 - a % 8)) % 8
    go a b c = omega (arith, lt, c)
