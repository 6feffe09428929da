use Rattle.std.proofs.Common.{◌≡◌, ◌<◌, ℕ, List, length, subst, sym, arith}
use Rattle.gf2_linear.specs.Bases.{pivots_of}
use Rattle.gf2_linear.specs.Completions.{ArePivots}
use Rattle.gf2_linear.proofs.BasisLaws.{pivot-at}
use Rattle.gf2_linear.proofs.CompletionLaws.{length-pivots, pivot-read}
use Rattle.gf2_linear.proofs.bases.Basis.pivot.Goals as goal

pub index-requires : goal.index-requires
index-requires c =
    let n : length c.self.inside.entries.items ≡ length c.self.inside.rows.items = length-pivots c.self.inside.rows.items c.self.inside.entries.items c.self.invariant.pivots in
    let l : c.args.place < length c.self.inside.rows.items = subst (λ (k : List ℕ). c.args.place < length k) (sym c.self.view_is) c.requires.within in
    omega (arith, n, l, c.self.inside.entries.ok.0)

pub returns-clause-below : goal.returns-clause-below
returns-clause-below c =
    let n : length c.self.inside.entries.items ≡ length c.self.inside.rows.items = length-pivots c.self.inside.rows.items c.self.inside.entries.items c.self.invariant.pivots in
    let l : c.args.place < length c.self.inside.rows.items = subst (λ (k : List ℕ). c.args.place < length k) (sym c.self.view_is) c.requires.within in
    pivot-at c.self.inside.entries.items c.args.place c.index.result.now c.index.result.now (omega (arith, n, l)) c.index.ensures c.self.invariant.echelon

pub returns-clause-pivot : goal.returns-clause-pivot
returns-clause-pivot c =
    let n : length c.self.inside.entries.items ≡ length c.self.inside.rows.items = length-pivots c.self.inside.rows.items c.self.inside.entries.items c.self.invariant.pivots in
    let l : c.args.place < length c.self.inside.rows.items = subst (λ (k : List ℕ). c.args.place < length k) (sym c.self.view_is) c.requires.within in
    record {
      pivots = pivots_of c.self.inside.entries.items;
      found = subst (λ (k : List ℕ). ArePivots k (pivots_of c.self.inside.entries.items)) c.self.view_is c.self.invariant.pivots;
      there = sym (pivot-read c.self.inside.entries.items c.args.place c.index.result.now c.index.result.now (omega (arith, n, l)) c.index.ensures);
    }
