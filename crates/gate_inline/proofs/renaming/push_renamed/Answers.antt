use Rattle.std.proofs.Common.{ap, arith, map, ◌++◌, ◌∷◌, [], ◌∙◌}
use Rattle.gate_library.specs.Operands.{wire_at as wire_there}
use Rattle.gate_inline.specs.Renaming.{renamed, renamed_op}
use Rattle.gate_inline.proofs.RenamingLaws.{put-more}
use Rattle.gate_inline.proofs.renaming.push_renamed.Goals as goal

pub ops-preserved : goal.ops-preserved
ops-preserved c =
    let g = renamed_op (renamed c.args.from.now (map (wire_there c.args.j) c.args.places.now)) in
    put-more g c.args.list.now.items c.ops.list.items c.push.new.self.items c.args.start c.ops.k c.index-op.result.now (omega arith) (omega (arith, c.requires.within))
    c.ops.invariant c.index-op.ensures (c.in_ok-push.ensures.items ∙ ap (λ o. c.ops.list.items ++ o ∷ []) c.renamed_op.ensures.value)
