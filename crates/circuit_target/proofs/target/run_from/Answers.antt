-- What the run is, and what it leaves to the lookout.
use Rattle.std.proofs.Common.{rules}
use Rattle.circuit_target.proofs.target.run_from.Goals as goal

pub returns-then-traced-clause-run : goal.returns-then-traced-clause-run
returns-then-traced-clause-run c = λ ahead h.
    let e = c.in_ok-routed.ensures in (
      record {
        run = (e.run ahead h).0;
        wires = e.wires;
        fine = search rules;
        placed = search rules;
        realises = e.realises;
        edges = e.edges;
        t_gates = e.t_count;
        cx_gates = e.cx_count;
        few_swaps = e.few_swaps;
      },
      (e.run ahead h).1,
    )

pub returns-then-traced-clause-events : goal.returns-then-traced-clause-events
returns-then-traced-clause-events c = λ ahead h asked. c.in_ok-routed.ensures.events ahead h

pub returns-clause-run : goal.returns-clause-run
returns-clause-run c = λ ahead h.
    let e = c.in_ok-routed-2.ensures in (
      record {
        run = (e.run ahead h).0;
        wires = e.wires;
        fine = search rules;
        placed = search rules;
        realises = e.realises;
        edges = e.edges;
        t_gates = e.t_count;
        cx_gates = e.cx_count;
        few_swaps = e.few_swaps;
      },
      (e.run ahead h).1,
    )
