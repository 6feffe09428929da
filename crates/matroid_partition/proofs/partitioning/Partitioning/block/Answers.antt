use Rattle.std.proofs.Common.{◌<◌, length, get_or, subst, sym, ap, ◌∙◌, arith}
use Rattle.std.proofs.lemmas.List.{get_or_read}
use Rattle.matroid_partition.specs.Arrangements.{Arrangement}
use Rattle.matroid_partition.proofs.partitioning.Partitioning.block.Goals as goal

pub index-requires : goal.index-requires
index-requires c =
    let l : c.args.number < length c.self.inside.blocks.items = subst (λ (a : Arrangement). c.args.number < length a.blocks) (sym c.self.view_is) c.requires.within in
    omega (arith, l, c.self.inside.blocks.ok.0)

pub returns : goal.returns
returns c = record {
  value = λ d.
      let l : c.args.number < length c.self.inside.blocks.items = subst (λ (a : Arrangement). c.args.number < length a.blocks) (sym c.self.view_is) c.requires.within in
      get_or_read c.self.inside.blocks.items c.args.number c.index.result.now l c.index.ensures d ∙ ap (λ (a : Arrangement). get_or a.blocks c.args.number d) c.self.view_is;
}
