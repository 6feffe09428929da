-- What the loops over lists need: the list so far is put in front of what is still to come.
--   more-first, more-step, more-last   the first member, one more, none more
--   names, args, angles   these for each kind of list
use Rattle.std.proofs.Common.{◌≡◌, ℕ, Bool, true, false, if◌then◌else◌, List, [], ◌∷◌, ◌++◌, Option, Some, None, refl, sym, ap, ◌∙◌, map, append-nil, lit≤, option_map}
use Rattle.qasm_parser.specs.declared.symbols.Mark.TheVariants.{Comma}
use Rattle.qasm_parser.specs.declared.tree.Arg.{Arg}
use Rattle.qasm_parser.specs.Symbols.{Symbol}
use Rattle.std.proofs.lemmas.List.{map-append}
use Rattle.qasm_parser.specs.declared.tree.Expr.{Expr}
use Rattle.qasm_parser.specs.Tree.{Expression, expression, most_depth}
use Rattle.qasm_parser.specs.Spelling.{SpellsAngle, SpellsArg, SpellsName}
use Rattle.qasm_parser.specs.Reading.{Read, all, angle_of, arg_of, first_of, is_mark, list_of, more_of, name_of, onto, read, skip}
use Rattle.qasm_parser.proofs.RepeatLaws.{Shrinks, all-end, all-more, more-shrinks, onto-onto, skip-sound}
use Rattle.qasm_parser.proofs.ExpressionLaws.{NoSign}
use Rattle.qasm_parser.proofs.FormLaws.{Any, NoBracket, angle-complete, angle-sound, angle-takes, shown, arg-complete, arg-sound, arg-takes, name-complete, name-list, name-takes}

first_of-none : (d : Option ℕ) → first_of d None ≡ d
first_of-none None = refl
first_of-none (Some n) = refl

module _ {A : Type 0} (item : List Symbol → Option (Read A)) where
  more-comma : (ts us : List Symbol) → skip Comma ts ≡ Some us → more_of item ts ≡ option_map Some (item us)
  more-comma ts us h = ap (more_of item) (skip-sound Comma ts us h)

  more-other : (ts : List Symbol) → skip Comma ts ≡ None → more_of item ts ≡ Some None
  more-other [] h = refl
  more-other (t ∷ ts) h = by_test (is_mark Comma t) refl h
    where
      by_test : (b : Bool) → is_mark Comma t ≡ b → (if b then Some ts else None) ≡ None → more_of item (t ∷ ts) ≡ Some None
      by_test true is h' = cc
      by_test false is h' = rw (is, more_of) refl

  more-step : Shrinks (more_of item) → (front : List A) (deep : Option ℕ) (ts us : List Symbol) (x : Read A) → skip Comma ts ≡ Some us → item us ≡ Some x
      → onto front deep (all (more_of item) ts) ≡ onto (front ++ x.value ∷ []) (first_of deep x.deep) (all (more_of item) x.rest)
  more-step shrinks front deep ts us x h e =
      ap (onto front deep) (all-more (more_of item) shrinks ts x (more-comma ts us h ∙ ap (option_map Some) e))
      ∙ sym (onto-onto front (x.value ∷ []) deep x.deep (all (more_of item) x.rest))

  more-last : (front : List A) (deep : Option ℕ) (ts : List Symbol) → skip Comma ts ≡ None → onto front deep (all (more_of item) ts) ≡ Some (read front deep ts)
  more-last front deep ts h =
      ap (onto front deep) (all-end (more_of item) ts (more-other ts h)) ∙ rw (append-nil, first_of-none) refl

  list-first : (ts : List Symbol) (x : Read A) → item ts ≡ Some x → list_of item ts ≡ onto (x.value ∷ []) x.deep (all (more_of item) x.rest)
  list-first ts x e = rw (e, list_of) refl

-- ---- names
names-shrink : Shrinks (more_of name_of)
names-shrink = more-shrinks most_depth (λ n. n) SpellsName name_of (name-list most_depth) Any (name-takes most_depth) (λ ts. tt) (name-complete most_depth)

pub names-first : (ts rest : List Symbol) (n : List ℕ) → name_of ts ≡ Some (read n None rest) → onto (n ∷ []) None (all (more_of name_of) rest) ≡ list_of name_of ts
names-first ts rest n e = sym (list-first name_of ts _ e)

pub names-step : (front : List (List ℕ)) (ts us rest : List Symbol) (n : List ℕ) → skip Comma ts ≡ Some us → name_of us ≡ Some (read n None rest)
    → onto (front ++ n ∷ []) None (all (more_of name_of) rest) ≡ onto front None (all (more_of name_of) ts)
names-step front ts us rest n h e = sym (more-step name_of names-shrink front None ts us _ h e)

pub names-last : (front : List (List ℕ)) (ts : List Symbol) → skip Comma ts ≡ None → onto front None (all (more_of name_of) ts) ≡ Some (read front None ts)
names-last front ts h = more-last name_of front None ts h

pub ruleset names = (names-first, names-step, names-last)

-- ---- arguments
args-shrink : (plain : Bool) → Shrinks (more_of (arg_of plain))
args-shrink plain = more-shrinks most_depth (λ a. a) (SpellsArg plain) (arg_of plain) (arg-sound most_depth plain) NoBracket (arg-takes most_depth plain) (λ ts. refl) (arg-complete most_depth plain)

pub args-first : (plain : Bool) (ts rest : List Symbol) (a : Arg) → arg_of plain ts ≡ Some (read a None rest)
    → onto (a ∷ []) None (all (more_of (arg_of plain)) rest) ≡ list_of (arg_of plain) ts
args-first plain ts rest a e = sym (list-first (arg_of plain) ts _ e)

pub args-step : (plain : Bool) (front : List Arg) (ts us rest : List Symbol) (a : Arg) → skip Comma ts ≡ Some us → arg_of plain us ≡ Some (read a None rest)
    → onto (front ++ a ∷ []) None (all (more_of (arg_of plain)) rest) ≡ onto front None (all (more_of (arg_of plain)) ts)
args-step plain front ts us rest a h e = sym (more-step (arg_of plain) (args-shrink plain) front None ts us _ h e)

pub args-last : (plain : Bool) (front : List Arg) (ts : List Symbol) → skip Comma ts ≡ None → onto front None (all (more_of (arg_of plain)) ts) ≡ Some (read front None ts)
args-last plain front ts h = more-last (arg_of plain) front None ts h

pub ruleset args = (args-first, args-step, args-last)

-- ---- angles
angles-shrink : Shrinks (more_of (angle_of most_depth))
angles-shrink = more-shrinks most_depth (shown most_depth (lit≤ tt)) SpellsAngle (angle_of most_depth) (angle-sound most_depth (lit≤ tt)) NoSign (angle-takes most_depth (shown most_depth (lit≤ tt))) (λ ts. tt) (angle-complete most_depth (lit≤ tt))

pub angles-first : (ts rest : List Symbol) (e : Expression) (d : Option ℕ) → angle_of most_depth ts ≡ Some (read e d rest)
    → onto (e ∷ []) d (all (more_of (angle_of most_depth)) rest) ≡ list_of (angle_of most_depth) ts
angles-first ts rest e d h = sym (list-first (angle_of most_depth) ts _ h)

pub angles-step : (front : List Expr) (deep : Option ℕ) (ts us rest : List Symbol) (e : Expr) (d : Option ℕ) → skip Comma ts ≡ Some us
    → angle_of most_depth us ≡ Some (read (expression e) d rest)
    → onto (map expression (front ++ e ∷ [])) (first_of deep d) (all (more_of (angle_of most_depth)) rest) ≡ onto (map expression front) deep (all (more_of (angle_of most_depth)) ts)
angles-step front deep ts us rest e d h k =
    ap (λ xs. onto xs (first_of deep d) (all (more_of (angle_of most_depth)) rest)) (map-append expression front (e ∷ []))
    ∙ sym (more-step (angle_of most_depth) angles-shrink (map expression front) deep ts us _ h k)

pub angles-last : (front : List Expression) (deep : Option ℕ) (ts : List Symbol) → skip Comma ts ≡ None
    → onto front deep (all (more_of (angle_of most_depth)) ts) ≡ Some (read front deep ts)
angles-last front deep ts h = more-last (angle_of most_depth) front deep ts h

pub ruleset angles = (angles-first, angles-step, angles-last)
