use Rattle.std.proofs.Common.{◌≡◌, ◌<◌, ◌^◌, ◌+◌, List, ℕ, All, Contains, length, get_or, subst, sym, ap, ◌∙◌, arith}
use Rattle.gf2_linear.specs.declared.bases.Entry.{Entry}
use Rattle.gf2_linear.specs.Bases.{pivots_of}
use Rattle.gf2_linear.specs.Completions.{IsCompletion}
use Rattle.gf2_linear.proofs.CompletionLaws.{Placed, placed-none, placed-more, placed-independent, placed-each, pivots-within, length-pivots, pivot-read, all-below, IsCompletion-placed}
use Rattle.gf2_linear.proofs.SumLaws.{item}
use Rattle.gf2_linear.proofs.bases.Basis.complete.Goals as goal

pub rows-init : goal.rows-init
rows-init c = placed-none c.self.inside.rows.items (pivots_of c.self.inside.entries.items) c.args.wires c.in_ok-matrix.matrix c.in_ok-matrix.ensures.ok

pub index-requires : goal.index-requires
index-requires c =
    let n : length c.self.inside.entries.items ≡ length c.self.inside.rows.items = length-pivots c.self.inside.rows.items c.self.inside.entries.items c.self.invariant.pivots in
    let l : c.rows.place < length c.self.inside.rows.items = subst (λ (k : List ℕ). c.rows.place < length k) c.deref-row-items.ensures.value c.rows-test.true in
    omega (arith, n, l, c.self.inside.entries.ok.0)

pub replace-requires-clause-there : goal.replace-requires-clause-there
replace-requires-clause-there c =
    let rows : List ℕ = c.self.inside.rows.items in
    let es : List Entry = c.self.inside.entries.items in
    let n : length es ≡ length rows = length-pivots rows es c.self.invariant.pivots in
    let l : c.rows.place < length rows = subst (λ (k : List ℕ). c.rows.place < length k) c.deref-row-items.ensures.value c.rows-test.true in
    let b : (k : ℕ) → get_or rows k 0 < 2 ^ c.args.wires = subst (λ (r : List ℕ). (k : ℕ) → get_or r k 0 < 2 ^ c.args.wires) (sym c.self.view_is) (all-below c.args.wires c.args.self.now c.requires.below) in
    let w : get_or (pivots_of es) c.rows.place 0 < c.args.wires = pivots-within rows (pivots_of es) c.args.wires c.self.invariant.pivots b c.rows.place l in
    let p : c.index.result.now.pivot ≡ get_or (pivots_of es) c.rows.place 0 = pivot-read es c.rows.place c.index.result.now c.index.result.now (omega (arith, n, l)) c.index.ensures in
    omega (arith, w, p, c.rows.invariant.long)

pub rows-preserved : goal.rows-preserved
rows-preserved c =
    let rows : List ℕ = c.self.inside.rows.items in
    let es : List Entry = c.self.inside.entries.items in
    let n : length es ≡ length rows = length-pivots rows es c.self.invariant.pivots in
    let l : c.rows.place < length rows = subst (λ (k : List ℕ). c.rows.place < length k) c.deref-row-items.ensures.value c.rows-test.true in
    let b : (k : ℕ) → get_or rows k 0 < 2 ^ c.args.wires = subst (λ (r : List ℕ). (k : ℕ) → get_or r k 0 < 2 ^ c.args.wires) (sym c.self.view_is) (all-below c.args.wires c.args.self.now c.requires.below) in
    let w : get_or (pivots_of es) c.rows.place 0 < c.args.wires = pivots-within rows (pivots_of es) c.args.wires c.self.invariant.pivots b c.rows.place l in
    let p : c.index.result.now.pivot ≡ get_or (pivots_of es) c.rows.place 0 = pivot-read es c.rows.place c.index.result.now c.index.result.now (omega (arith, n, l)) c.index.ensures in
    let v : c.row-item.result ≡ get_or rows c.rows.place 0 =
    item c.deref-row-items.result.now c.rows.place c.row-item.result c.rows-test.true c.row-item.is ∙ ap (λ (k : List ℕ). get_or k c.rows.place 0) c.deref-row-items.ensures.value in
    subst (λ (m : List ℕ). Placed rows (pivots_of es) c.args.wires (c.rows.place + 1) m) (sym c.replace.ensures.new)
    (placed-more rows (pivots_of es) c.args.wires c.rows.place c.index.result.now.pivot c.row-item.result c.rows.matrix c.self.invariant.pivots l p v (omega (arith, w, p)) c.rows.invariant)

pub returns-clause-independent : goal.returns-clause-independent
returns-clause-independent c =
    let rows : List ℕ = c.self.inside.rows.items in
    let ps : List ℕ = pivots_of c.self.inside.entries.items in
    let n : c.rows.place ≡ length rows = omega (arith, ap length c.deref-row-items.ensures.value) in
    let b : (k : ℕ) → get_or rows k 0 < 2 ^ c.args.wires = subst (λ (r : List ℕ). (k : ℕ) → get_or r k 0 < 2 ^ c.args.wires) (sym c.self.view_is) (all-below c.args.wires c.args.self.now c.requires.below) in
    placed-independent rows ps c.args.wires c.rows.matrix c.self.invariant.pivots b (subst (λ i. Placed rows ps c.args.wires i c.rows.matrix) n c.rows.invariant)

pub returns-clause-each : goal.returns-clause-each
returns-clause-each c =
    let rows : List ℕ = c.self.inside.rows.items in
    let ps : List ℕ = pivots_of c.self.inside.entries.items in
    let n : c.rows.place ≡ length rows = omega (arith, ap length c.deref-row-items.ensures.value) in
    let b : (k : ℕ) → get_or rows k 0 < 2 ^ c.args.wires = subst (λ (r : List ℕ). (k : ℕ) → get_or r k 0 < 2 ^ c.args.wires) (sym c.self.view_is) (all-below c.args.wires c.args.self.now c.requires.below) in
    subst (λ (r : List ℕ). All (Contains c.rows.matrix) r) c.self.view_is
    (placed-each rows ps c.args.wires c.rows.matrix (pivots-within rows ps c.args.wires c.self.invariant.pivots b) (subst (λ i. Placed rows ps c.args.wires i c.rows.matrix) n c.rows.invariant))

pub returns-clause-places : goal.returns-clause-places
returns-clause-places c =
    let rows : List ℕ = c.self.inside.rows.items in
    let ps : List ℕ = pivots_of c.self.inside.entries.items in
    let n : c.rows.place ≡ length rows = omega (arith, ap length c.deref-row-items.ensures.value) in
    let b : (k : ℕ) → get_or rows k 0 < 2 ^ c.args.wires = subst (λ (r : List ℕ). (k : ℕ) → get_or r k 0 < 2 ^ c.args.wires) (sym c.self.view_is) (all-below c.args.wires c.args.self.now c.requires.below) in
    subst (λ (r : List ℕ). IsCompletion r c.args.wires c.rows.matrix) c.self.view_is
    (IsCompletion-placed rows ps c.args.wires c.rows.matrix c.self.invariant.pivots b (subst (λ i. Placed rows ps c.args.wires i c.rows.matrix) n c.rows.invariant))
