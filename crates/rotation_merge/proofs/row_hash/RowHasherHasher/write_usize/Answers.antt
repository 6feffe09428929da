use Rattle.std.proofs.Common.{ℕ, sym, ◌∙◌, ap}
use Rattle.std.proofs.lemmas.Nat.{from_le_bytes-to_le_bytes_8}
use Rattle.std.specs.Hash.{le_bytes}
use Rattle.rotation_merge.specs.declared.row_hash.RowHasher.{RowHasher}
use Rattle.rotation_merge.specs.Hashing.{mixed}
use Rattle.rotation_merge.proofs.row_hash.RowHasherHasher.write_usize.Goals as goal

abbrev hasher : ℕ → RowHasher
hasher s = record { state = s }

pub returns : goal.returns
unfolding le_bytes
returns c = ap hasher (c.mix-self.ensures ∙ ap (mixed c.args.self.now.state) (sym (from_le_bytes-to_le_bytes_8 c.args.i c.ranges.i.fits)))
