use Rattle.std.proofs.Common.{◌≡◌, ◌+◌, ◌*◌, ◌<◌, Some, None, length, get_or, set, sym, ◌∙◌, subst, arith}
use Rattle.std.proofs.lemmas.List.{get_or-set_same, length-map}
use Rattle.coupling_map.specs.Coupling.{IsNeighbours}
use Rattle.coupling_map.specs.Costs.{most_cost}
use Rattle.std.proofs.lemmas.Bool.{both_ways}
use Rattle.coupling_map.specs.Search.{IsRelaxing}
use Rattle.coupling_map.proofs.Limits.{entry-fits, one_limited, to_most}
use Rattle.coupling_map.proofs.WalkLaws.{near_back}
use Rattle.coupling_map.proofs.SearchLaws.{above_read, entry_read, entry-low, entry-short, near_read, not_above, work-lower, work-unmarked, IsRelaxing-keep, IsRelaxing-lower, IsRelaxing-start, IsSearched-relaxed}
use Rattle.coupling_map.proofs.search.look_at.Goals as goal
use Rattle.coupling_map.proofs.search.look_at.Goals.{then-is_above, else-is_above}

pub near-init : goal.near-init
near-init g c =
    let n = c.args.graph.now.size in
    let row = c.args.row.now.items in
    let marks = c.args.marks.now.items in
    let inside : c.args.qubit < length row = omega (arith, c.requires.qubit, c.requires.searched.good.long) in
    let place : c.args.qubit < length marks = omega (arith, c.requires.qubit, c.requires.searched.as_many) in
    let entry = entry_read row c.args.qubit c.index.result.now c.unwrap-distance.result inside c.index.ensures c.unwrap-distance.ensures in
    record {
      relaxing = IsRelaxing-start _ _ _ _ _ c.args.qubit c.unwrap-distance.result c.deref-near-items.result.now row marks c.requires.qubit entry c.requires.searched;
      less = omega (arith, work-unmarked n (n * most_cost) c.args.qubit row marks place c.requires.marked);
    }

pub cost-requires : goal.cost-requires
cost-requires g c = record {
  listed =
      let q = c.args.qubit in
      let n = c.args.graph.now.size in
      let es = c.args.graph.now.edges in
      let nears = c.deref-near-items.result.now in
      let inside : q < length c.args.neighbours.now = omega (arith, c.requires.qubit, c.requires.near.long, length-map c.args.neighbours.now (λ v. v.items)) in
      let read = c.deref-near-items.ensures.value ∙ near_read (λ v. v.items) c.args.neighbours.now q c.index-neighbours-qubit.result inside c.index-neighbours-qubit.is in
      let near = subst (IsNeighbours n es q) (sym read) (c.requires.near.each q c.requires.qubit) in
      let x = get_or nears c.near.near-index 0 in
      let here = near.each c.near.near-index 0 c.near-test.true in
      let listed = c.requires.listed x q (near_back es q x here.1) in
      listed;
}

pub overflow_cast-by : goal.overflow_cast-by
overflow_cast-by g c =
    let q = c.args.qubit in
    let n = c.args.graph.now.size in
    let es = c.args.graph.now.edges in
    let nears = c.deref-near-items.result.now in
    let inside : q < length c.args.neighbours.now = omega (arith, c.requires.qubit, c.requires.near.long, length-map c.args.neighbours.now (λ v. v.items)) in
    let read = c.deref-near-items.ensures.value ∙ near_read (λ v. v.items) c.args.neighbours.now q c.index-neighbours-qubit.result inside c.index-neighbours-qubit.is in
    let near = subst (IsNeighbours n es q) (sym read) (c.requires.near.each q c.requires.qubit) in
    let x = get_or nears c.near.near-index 0 in
    let here = near.each c.near.near-index 0 c.near-test.true in
    let listed = c.requires.listed x q (near_back es q x here.1) in
    let small = (g.met.C.Cost.fair c.args.costs.now).limited x q listed in
    omega (arith, c.cost.ensures.value, small)

pub overflow_add-by : goal.overflow_add-by
overflow_add-by g c =
    let q = c.args.qubit in
    let n = c.args.graph.now.size in
    let es = c.args.graph.now.edges in
    let nears = c.deref-near-items.result.now in
    let inside : q < length c.args.neighbours.now = omega (arith, c.requires.qubit, c.requires.near.long, length-map c.args.neighbours.now (λ v. v.items)) in
    let read = c.deref-near-items.ensures.value ∙ near_read (λ v. v.items) c.args.neighbours.now q c.index-neighbours-qubit.result inside c.index-neighbours-qubit.is in
    let near = subst (IsNeighbours n es q) (sym read) (c.requires.near.each q c.requires.qubit) in
    let x = get_or nears c.near.near-index 0 in
    let here = near.each c.near.near-index 0 c.near-test.true in
    let listed = c.requires.listed x q (near_back es q x here.1) in
    let small = (g.met.C.Cost.fair c.args.costs.now).limited x q listed in
    let h = c.near.invariant.relaxing in
    let short = entry-short n es (g.C.Cost.price c.args.costs.now) most_cost c.args.from c.near.row.items q c.unwrap-distance.result h.good h.here in
    omega (arith, c.cost.ensures.value, entry-fits n c.unwrap-distance.result (g.C.Cost.price c.args.costs.now x q) c.facts.ensures.graph.limited short small)

pub index-requires-in-near : goal.index-requires-in-near
index-requires-in-near g c =
    let q = c.args.qubit in
    let n = c.args.graph.now.size in
    let es = c.args.graph.now.edges in
    let nears = c.deref-near-items.result.now in
    let inside : q < length c.args.neighbours.now = omega (arith, c.requires.qubit, c.requires.near.long, length-map c.args.neighbours.now (λ v. v.items)) in
    let read = c.deref-near-items.ensures.value ∙ near_read (λ v. v.items) c.args.neighbours.now q c.index-neighbours-qubit.result inside c.index-neighbours-qubit.is in
    let near = subst (IsNeighbours n es q) (sym read) (c.requires.near.each q c.requires.qubit) in
    let x = get_or nears c.near.near-index 0 in
    let here = near.each c.near.near-index 0 c.near-test.true in
    let listed = c.requires.listed x q (near_back es q x here.1) in
    omega (arith, here.0, c.near.invariant.relaxing.good.long)

pub index_mut-requires-then-is_above : goal.index_mut-requires-then-is_above
index_mut-requires-then-is_above g c =
    let q = c.args.qubit in
    let n = c.args.graph.now.size in
    let es = c.args.graph.now.edges in
    let nears = c.deref-near-items.result.now in
    let inside : q < length c.args.neighbours.now = omega (arith, c.requires.qubit, c.requires.near.long, length-map c.args.neighbours.now (λ v. v.items)) in
    let read = c.deref-near-items.ensures.value ∙ near_read (λ v. v.items) c.args.neighbours.now q c.index-neighbours-qubit.result inside c.index-neighbours-qubit.is in
    let near = subst (IsNeighbours n es q) (sym read) (c.requires.near.each q c.requires.qubit) in
    let x = get_or nears c.near.near-index 0 in
    let here = near.each c.near.near-index 0 c.near-test.true in
    let listed = c.requires.listed x q (near_back es q x here.1) in
    omega (arith, here.0, c.near.invariant.relaxing.good.long)

pub index_mut-requires-then-is_above-2 : goal.index_mut-requires-then-is_above-2
index_mut-requires-then-is_above-2 g c =
    let q = c.args.qubit in
    let n = c.args.graph.now.size in
    let es = c.args.graph.now.edges in
    let nears = c.deref-near-items.result.now in
    let inside : q < length c.args.neighbours.now = omega (arith, c.requires.qubit, c.requires.near.long, length-map c.args.neighbours.now (λ v. v.items)) in
    let read = c.deref-near-items.ensures.value ∙ near_read (λ v. v.items) c.args.neighbours.now q c.index-neighbours-qubit.result inside c.index-neighbours-qubit.is in
    let near = subst (IsNeighbours n es q) (sym read) (c.requires.near.each q c.requires.qubit) in
    let x = get_or nears c.near.near-index 0 in
    let here = near.each c.near.near-index 0 c.near-test.true in
    let listed = c.requires.listed x q (near_back es q x here.1) in
    omega (arith, here.0, c.near.invariant.relaxing.as_many)

pub returns : goal.returns
returns g c =
    let q = c.args.qubit in
    let n = c.args.graph.now.size in
    let es = c.args.graph.now.edges in
    let nears = c.deref-near-items.result.now in
    let inside : q < length c.args.neighbours.now = omega (arith, c.requires.qubit, c.requires.near.long, length-map c.args.neighbours.now (λ v. v.items)) in
    let read = c.deref-near-items.ensures.value ∙ near_read (λ v. v.items) c.args.neighbours.now q c.index-neighbours-qubit.result inside c.index-neighbours-qubit.is in
    let near = subst (IsNeighbours n es q) (sym read) (c.requires.near.each q c.requires.qubit) in
    let last : c.near.near-index ≡ length nears = omega (arith, c.near-test.false, c.near.auto.near-index-end) in
    record {
      searched = IsSearched-relaxed n es (g.C.Cost.price c.args.costs.now) most_cost c.args.from q c.unwrap-distance.result nears c.near.row.items c.near.marks.items near
          (subst (λ i. IsRelaxing n es (g.C.Cost.price c.args.costs.now) most_cost c.args.from q c.unwrap-distance.result nears i c.near.row.items c.near.marks.items) last c.near.invariant.relaxing);
      less = c.near.invariant.less;
    }

pub near-preserved : goal.near-preserved
near-preserved g c =
    let q = c.args.qubit in
    let n = c.args.graph.now.size in
    let es = c.args.graph.now.edges in
    let nears = c.deref-near-items.result.now in
    let inside : q < length c.args.neighbours.now = omega (arith, c.requires.qubit, c.requires.near.long, length-map c.args.neighbours.now (λ v. v.items)) in
    let read = c.deref-near-items.ensures.value ∙ near_read (λ v. v.items) c.args.neighbours.now q c.index-neighbours-qubit.result inside c.index-neighbours-qubit.is in
    let near = subst (IsNeighbours n es q) (sym read) (c.requires.near.each q c.requires.qubit) in
    let x = get_or nears c.near.near-index 0 in
    let here = near.each c.near.near-index 0 c.near-test.true in
    let listed = c.requires.listed x q (near_back es q x here.1) in
    let w = g.C.Cost.price c.args.costs.now in
    let h = c.near.invariant.relaxing in
    let k = c.unwrap-distance.result + c.cost.result in
    let row = c.near.row.items in
    let marks = c.near.marks.items in
    let within : x < length row = omega (arith, here.0, h.good.long) in
    let place : x < length marks = omega (arith, here.0, h.as_many) in
    let small = to_most (w x q) ((g.met.C.Cost.fair c.args.costs.now).limited x q listed) in
    let by : k ≡ c.unwrap-distance.result + w x q = omega (arith, c.cost.ensures.value) in
    elim c.if-is_above.branch [
      | then-is_above b ↦
          let above = above_read row x c.index-in-near.result.now k within c.index-in-near.ensures (c.is_above.ensures.0 b.if-is_above.true) in
          let lower = IsRelaxing-lower n es w most_cost c.args.from q c.unwrap-distance.result k nears c.near.near-index row marks h here.0 (near_back es q x here.1) small by above in
          let below : k < n * most_cost = entry-low n es w most_cost c.args.from (set row x (Some k)) x k one_limited lower.good (get_or-set_same row x (Some k) None within) in
          rw (b.row-is, b.marks-is) (record {
            relaxing = lower;
            less = omega (arith, c.near.invariant.less, work-lower n (n * most_cost) x k row marks within place below above);
          })
      | else-is_above b ↦
          let not = not_above row x c.index-in-near.result.now k within c.index-in-near.ensures (λ a. both_ways c.is_above.result b.if-is_above.false (c.is_above.ensures.1 a)) in
          rw (b.row-is, b.marks-is) (record {
            relaxing = IsRelaxing-keep n es w most_cost c.args.from q c.unwrap-distance.result nears c.near.near-index row marks h (not.0, not.1, omega (arith, not.2, by));
            less = c.near.invariant.less;
          })
    ]
