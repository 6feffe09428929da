use Rattle.std.proofs.Common.{◌≡◌, ◌+◌, ◌*◌, ◌<◌, ◌≤◌, length, get_or, take, refl, ap, ◌∙◌, subst, arith}
use Rattle.std.proofs.lemmas.List.{get_or_read, take_all}
use Rattle.coupling_map.specs.CostTables.{IsPriced}
use Rattle.coupling_map.proofs.CostLaws.{lessened, IsPriced-next, IsPriced-none}
use Rattle.coupling_map.proofs.edge_costs.ListedCost.new.Goals as goal

pub edges-init : goal.edges-init
edges-init c = rw (c.in_ok-table.ensures.items_if_clones_equal (λ y e. e)) (IsPriced-none c.args.size c.args.edges.now c.args.costs.now)

pub edges-preserved : goal.edges-preserved
edges-preserved c =
    let n = c.args.size in
    let table = c.edges.table.items in
    let e = get_or c.args.edges.now c.edges.number (0, 0) in
    let h = c.requires.within c.edges.number (0, 0) c.edges-test.true in
    let cost = get_or c.args.costs.now c.edges.number 0 in
    let inside : c.place.result < length table = omega (arith, c.place.ensures.within, c.edges.invariant.long) in
    let read : c.index.result.now ≡ get_or table (e.0 * n + e.1) 0 =
    get_or_read table c.place.result c.index.result.now inside c.index.ensures 0 ∙ ap (λ m. get_or table m 0) c.place.ensures.place in
    rw (c.place-in-edges.ensures.place, c.place-in-edges-2.ensures.place)
    (IsPriced-next n c.args.edges.now c.args.costs.now c.edges.number e cost c.lesser-cost.result table c.edges-test.true c.requires.listed refl refl h.0 h.1
    (c.lesser-cost.ensures ∙ ap (λ old. lessened old cost) read) c.edges.invariant)

pub returns : goal.returns
returns c =
    let costs : length c.args.costs.now ≤ c.edges.number = omega (arith, c.edges-test.false, c.requires.listed.long) in
    record {
      size = refl;
      priced = subst (λ es. IsPriced es c.args.costs.now (record { size = c.args.size; table = c.edges.table.items })) (take_all c.edges.number c.args.edges.now c.edges-test.false)
          (subst (λ cs. IsPriced (take c.edges.number c.args.edges.now) cs (record { size = c.args.size; table = c.edges.table.items })) (take_all c.edges.number c.args.costs.now costs) c.edges.invariant);
    }
