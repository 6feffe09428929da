use Rattle.std.proofs.Common.{◌≡◌, ℕ, false, true, subst, arith}
use Rattle.coupling_map.specs.Search.{mark}
use Rattle.coupling_map.proofs.SearchLaws.{marked-below, IsRow-searched, IsSearched-start}
use Rattle.coupling_map.proofs.search.distances_from.Goals as goal

pub qubits-init : goal.qubits-init
qubits-init g c =
    rw (c.in_ok-row.ensures, c.size.ensures.size, c.in_ok-marks.ensures, c.size-2.ensures.size)
    (IsSearched-start c.args.graph.now.size _ _ _ c.args.from c.requires.from)

pub returns-in-None : goal.returns-in-None
returns-in-None g c = record {
  ok =
      IsRow-searched _ _ _ _ _ c.qubits.row.items c.qubits.marks.items c.qubits.invariant
      (subst (λ ms. (y : ℕ) → mark ms y ≡ false) c.deref-in-qubits.ensures.value (c.nearest.ensures.none c.in-None.is));
}

pub look_at-requires : goal.look_at-requires
look_at-requires g c =
    let on = subst (λ ms. mark ms c.in-Some.qubit ≡ true) c.deref-in-qubits.ensures.value c.in-Some.ensures.some in
    record {
      near = c.requires.near;
      listed = c.requires.listed;
      qubit = omega (arith, marked-below c.qubits.marks.items c.in-Some.qubit on, c.qubits.invariant.as_many);
      marked = on;
      searched = c.qubits.invariant;
    }
