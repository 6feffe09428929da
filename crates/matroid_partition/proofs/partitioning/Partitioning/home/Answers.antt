use Rattle.std.proofs.Common.{◌<◌, length, get_or, subst, sym, ap, ◌∙◌, arith}
use Rattle.std.proofs.lemmas.List.{get_or_read}
use Rattle.matroid_partition.specs.Arrangements.{Arrangement}
use Rattle.matroid_partition.proofs.partitioning.Partitioning.home.Goals as goal

pub index-requires : goal.index-requires
index-requires c =
    let l : c.args.place < length c.self.inside.homes.items = subst (λ (a : Arrangement). c.args.place < length a.homes) (sym c.self.view_is) c.requires.within in
    omega (arith, l, c.self.inside.homes.ok.0)

pub returns : goal.returns
returns c = record {
  value =
      let l : c.args.place < length c.self.inside.homes.items = subst (λ (a : Arrangement). c.args.place < length a.homes) (sym c.self.view_is) c.requires.within in
      get_or_read c.self.inside.homes.items c.args.place c.index.result.now l c.index.ensures 0 ∙ ap (λ (a : Arrangement). get_or a.homes c.args.place 0) c.self.view_is;
}
