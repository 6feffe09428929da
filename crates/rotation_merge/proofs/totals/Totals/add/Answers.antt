-- A set that is there keeps its number, and its total changes; another one goes last.
use Rattle.std.proofs.Common.{◌≡◌, ℕ, ◌+◌, ◌%◌, ◌∙◌, [], ◌∷◌, ◌++◌, None, Some, Vec, List, true, map, slice_get, refl, sym, ap, append-nil, arith}
use Rattle.std.specs.Prelude.{unwrap_or, nat_eq, is_some}
use Rattle.std.specs.Map.{keys_of, lookup}
use Rattle.std.specs.Cmp.Lexicographic.{pointwise}
use Rattle.std.specs.declared.alloc.Global.{Global}
use Rattle.indexmap.proofs.CallerLemmas.{insert_entry-new, keys-insert_entry-present}
use Rattle.indexmap.proofs.MapLemmas.{absent_from_lookup, or_len-absent}
use Rattle.rotation_merge.specs.declared.totals.Totals.{Totals}
use Rattle.rotation_merge.specs.Sums.{rows, total_in}
use Rattle.rotation_merge.proofs.MapLaws.{changed}
use Rattle.rotation_merge.proofs.NoteLaws.{index-row, row-last, rows-push}
use Rattle.rotation_merge.proofs.totals.Totals.add.Goals as goal

first : (total k : ℕ) → 0 ≡ total → k % 8 ≡ (total + k) % 8
first total k e = omega arith

added : (had total k : ℕ) → had ≡ total → (had % 8 + k) % 8 ≡ (total + k) % 8
added had total k e = omega arith

pub returns-in_default : goal.returns-in_default
returns-in_default c =
    let old = c.args.self.now in
    let set = c.args.set.now in
    let key = c.in_ok-key.key in
    let given = c.in_ok-number.ensures in
    let same : key.items ≡ set = c.in_ok-key.ensures.items in
    let absent : lookup (λ (z : Vec ℕ Global). pointwise nat_eq key.items z.items) old.sets.entries ≡ None = sym given.old ∙ c.in_default.is in
    let change = given.updates in
    let new : Totals = record { sets = c.insert_full.new.self; notes = old.notes; constant = old.constant } in
    let none : lookup (λ (z : Vec ℕ Global). pointwise nat_eq set z.items) old.sets.entries ≡ None =
    ap (λ row. lookup (λ (z : Vec ℕ Global). pointwise nat_eq row z.items) old.sets.entries) (sym same) ∙ absent in
    let grown : rows new ≡ rows old ++ set ∷ [] =
    ap (λ es. map (λ (z : Vec ℕ Global). z.items) (keys_of es)) (given.entries ∙ insert_entry-new (λ (x y : Vec ℕ Global). pointwise nat_eq x.items y.items) old.sets key (c.args.k % 8) absent)
    ∙ rows-push (λ (z : Vec ℕ Global). z.items) old.sets.entries (key, c.args.k % 8) ∙ ap (λ row. rows old ++ row ∷ []) same in
    let last = given.index ∙ or_len-absent (λ (z : Vec ℕ Global). pointwise nat_eq key.items z.items) old.sets.entries
    (absent_from_lookup (λ (z : Vec ℕ Global). pointwise nat_eq key.items z.items) old.sets.entries absent) in
    record {
      total = changed old new key.items set (Some (c.args.k % 8)) ((total_in old set + c.args.k) % 8) same change.1 (first (total_in old set) c.args.k (sym (ap (λ o. unwrap_or o 0) none))) change.3;
      number = ap (λ rs. slice_get rs c.in_ok-number.number) grown ∙ ap (λ n. slice_get (rows old ++ set ∷ []) n) last ∙ row-last (λ (z : Vec ℕ Global). z.items) old.sets.entries set;
      rows = (set ∷ [], grown);
      notes = refl;
      constant = refl;
    }

pub returns : goal.returns
returns c =
    let old = c.args.self.now in
    let set = c.args.set.now in
    let key = c.in_ok-key.key in
    let given = c.in_ok-number.ensures in
    let same : key.items ≡ set = c.in_ok-key.ensures.items in
    let found : lookup (λ (z : Vec ℕ Global). pointwise nat_eq key.items z.items) old.sets.entries ≡ Some c.in-Some.total = sym given.old ∙ c.in-Some.is in
    let there : is_some (lookup (λ (z : Vec ℕ Global). pointwise nat_eq key.items z.items) old.sets.entries) ≡ true = ap is_some found in
    let change = given.updates in
    let new : Totals = record { sets = c.insert_full.new.self; notes = old.notes; constant = old.constant } in
    let kept : rows new ≡ rows old =
    ap (λ es. map (λ (z : Vec ℕ Global). z.items) (keys_of es)) given.entries
    ∙ ap (λ ks. map (λ (z : Vec ℕ Global). z.items) ks) (keys-insert_entry-present (λ (x y : Vec ℕ Global). pointwise nat_eq x.items y.items) old.sets key (c.args.k % 8) there) in
    let number : slice_get (rows old) c.in_ok-number.number ≡ Some set =
    ap (λ n. slice_get (rows old) n) given.index ∙ index-row (λ (z : Vec ℕ Global). z.items) key.items old.sets.entries there ∙ ap (λ (row : List ℕ). Some row) same in
    let first_change = changed old new key.items set (Some (c.args.k % 8)) (c.args.k % 8) same change.1 refl change.3 in
    let then_change = c.put.ensures.total set (ap (λ rs. slice_get rs c.in_ok-number.number) kept ∙ number) in
    let had : c.in-Some.total ≡ total_in old set =
    sym (ap (λ row. unwrap_or (lookup (λ (z : Vec ℕ Global). pointwise nat_eq row z.items) old.sets.entries) 0) (sym same) ∙ ap (λ o. unwrap_or o 0) found) in
    record {
      total = record {
        here = then_change.here ∙ added c.in-Some.total (total_in old set) c.args.k had;
        others = λ ws ne. then_change.others ws ne ∙ first_change.others ws ne;
      };
      number = ap (λ rs. slice_get rs c.in_ok-number.number) (c.put.ensures.rows ∙ kept) ∙ number;
      rows = ([], c.put.ensures.rows ∙ kept ∙ sym (append-nil (rows old)));
      notes = c.put.ensures.notes;
      constant = c.put.ensures.constant;
    }
