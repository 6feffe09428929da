use Rattle.std.proofs.Common.{◌<◌, ◌++◌, get_or, map, sym, ap, ◌∙◌, subst}
use Rattle.std.specs.Prelude.{unwrap_or}
use Rattle.coupling_map.specs.Coupling.{Coupling, IsCoupling}
use Rattle.coupling_map.specs.Walks.{IsHops}
use Rattle.coupling_map.proofs.ConnectedLaws.{hops-few}
use Rattle.coupling_map.proofs.RowLaws.{some_all, IsHops-row}
use Rattle.coupling_map.proofs.coupling.Device.hops_from.Goals as goal

pub append_row-requires : goal.append_row-requires
append_row-requires c =
    let h = c.self.invariant.coupling in
    let ls : c.args.from < c.self.inside.graph.size = subst (λ (d : Coupling). c.args.from < d.size) (sym c.self.view_is) c.requires.within in
    rw c.deref-2.ensures.value
    (some_all _ _ _ _ c.args.from c.in_ok-row.row.items h.graph c.in_ok-row.ensures.ok ls (λ b l. h.connected 0 b h.graph.positive l))

pub returns-clause-hops : goal.returns-clause-hops
returns-clause-hops c q lq =
    let h = c.self.invariant.coupling in
    let n = c.self.inside.graph.size in
    let es = c.self.inside.graph.edges in
    let ls : c.args.from < n = subst (λ (d : Coupling). c.args.from < d.size) (sym c.self.view_is) c.requires.within in
    let l : q < n = subst (λ (d : Coupling). q < d.size) (sym c.self.view_is) lq in
    let row = c.in_ok-row.row.items in
    let value = c.in_ok-append_row.ensures ∙ ap (λ xs. xs ++ map (λ o. unwrap_or o 0) c.deref-2.result.now) c.new-hops.ensures.items
    ∙ ap (map (λ o. unwrap_or o 0)) c.deref-2.ensures.value in
    subst (λ (d : Coupling). IsHops d.edges c.args.from q (get_or c.append_row.new.distances.items q 0)) c.self.view_is
    (subst (λ xs. IsHops es c.args.from q (get_or xs q 0)) (sym value)
    (IsHops-row n es _ c.args.from row h.graph c.in_ok-row.ensures.ok ls (λ b g. h.connected 0 b h.graph.positive g) q l))

pub returns-clause-hops_limit : goal.returns-clause-hops_limit
returns-clause-hops_limit c q lq =
    hops-few c.args.self.now c.args.from q _ (subst IsCoupling c.self.view_is c.self.invariant.coupling) c.requires.within lq (returns-clause-hops c q lq)
