-- Path sums with named variables. On n wires variable q is the input of wire q, and variable k n + q is that of the k-th H on
-- wire q, so it has its name whatever the gates on other wires are.
--     Seen                how many H stand before, on each wire;  unseen: none;  seen_more s q: one more on wire q
--     seen_after g s      how many stand before the next gate
--     next_variable n s q the variable of the next H on wire q
--     named_after n g w s the labels after gate g, where w are those before it
--     named_last n gs w s the labels after a list of gates
--     hadamard n g w s    an H as its variable and the set of the label before it;  hadamards n gs w s: those of a list, in order
--     term n g w s        what a gate puts on a set of variables: a P(k) puts k on its label's set where the label's bit is 0, and
--                         -k where it is 1; an H whose label before it has bit 1 puts 4 on its own variable
--     terms n gs w s      what the gates of a list put on sets
--     constant_at g w     what a gate puts on no set: a P(k) on a label with bit 1 puts k, and each X puts 2
--     constant n gs w s   what the gates of a list put on none, together
--     set_before v hs     the set of the H with variable v, and none where there is no such H
--     total m ts          the sum of what stands on the set m
--     constant_of n gs    the constant of a circuit
--     SamePathSum n A B   the same H with the same sets, the same last labels, and on each set the same total modulo 8
use Rattle.std.specs.Prelude.{◌≡◌, ℕ, suc, ◌+◌, ◌-◌, ◌*◌, ◌%◌, ◌^◌, ◌<◌, cond, List, [], ◌∷◌, ◌++◌, nat_eq, Option, Some, None}
use Rattle.circuit_list.specs.declared.Gate.{Gate}
use Rattle.circuit_list.specs.declared.Gate.TheVariants.{H, X, P, Cx}
use Rattle.path_parity.specs.PathSum.{Wires, with_label, add_labels, flipped, fresh, own_labels}

abbrev pub Seen : Type 0
Seen = ℕ → ℕ

abbrev pub unseen : Seen
unseen = λ q. 0

abbrev pub seen_more : Seen → ℕ → Seen
seen_more s q = λ p. cond (nat_eq p q) (suc (s p)) (s p)

abbrev pub seen_after : Gate → Seen → Seen
seen_after (H q) s = seen_more s q
seen_after (X q) s = s
seen_after (P k q) s = s
seen_after (Cx c t) s = s

abbrev pub next_variable : ℕ → Seen → ℕ → ℕ
next_variable n s q = suc (s q) * n + q

abbrev pub named_after : ℕ → Gate → Wires → Seen → Wires
named_after n (H q) w s = with_label w q (fresh (next_variable n s q))
named_after n (X q) w s = with_label w q (flipped (w q))
named_after n (P k q) w s = w
named_after n (Cx c t) w s = with_label w t (add_labels (w t) (w c))

abbrev pub named_last : ℕ → List Gate → Wires → Seen → Wires
named_last n [] w s = w
named_last n (g ∷ gs) w s = named_last n gs (named_after n g w s) (seen_after g s)

abbrev pub hadamard : ℕ → Gate → Wires → Seen → List (ℕ × ℕ)
hadamard n (H q) w s = (next_variable n s q, (w q).variables) ∷ []
hadamard n (X q) w s = []
hadamard n (P k q) w s = []
hadamard n (Cx c t) w s = []

abbrev pub hadamards : ℕ → List Gate → Wires → Seen → List (ℕ × ℕ)
hadamards n [] w s = []
hadamards n (g ∷ gs) w s = hadamard n g w s ++ hadamards n gs (named_after n g w s) (seen_after g s)

abbrev pub term : ℕ → Gate → Wires → Seen → List (ℕ × ℕ)
term n (H q) w s = cond (w q).bit ((2 ^ next_variable n s q, 4) ∷ []) []
term n (X q) w s = []
term n (P k q) w s = ((w q).variables, cond (w q).bit (8 - k) k) ∷ []
term n (Cx c t) w s = []

abbrev pub terms : ℕ → List Gate → Wires → Seen → List (ℕ × ℕ)
terms n [] w s = []
terms n (g ∷ gs) w s = term n g w s ++ terms n gs (named_after n g w s) (seen_after g s)

abbrev pub constant_at : Gate → Wires → ℕ
constant_at (H q) w = 0
constant_at (X q) w = 2
constant_at (P k q) w = cond (w q).bit k 0
constant_at (Cx c t) w = 0

abbrev pub constant : ℕ → List Gate → Wires → Seen → ℕ
constant n [] w s = 0
constant n (g ∷ gs) w s = constant_at g w + constant n gs (named_after n g w s) (seen_after g s)

abbrev pub set_before : ℕ → List (ℕ × ℕ) → Option ℕ
set_before v [] = None
set_before v (h ∷ hs) = cond (nat_eq h.0 v) (Some h.1) (set_before v hs)

abbrev pub total : ℕ → List (ℕ × ℕ) → ℕ
total m [] = 0
total m (e ∷ es) = cond (nat_eq e.0 m) e.1 0 + total m es

abbrev pub constant_of : ℕ → List Gate → ℕ
constant_of n gs = constant n gs (own_labels n) unseen

pub record SamePathSum (n : ℕ) (A B : List Gate) : Type 0 where
  pub sets : (v : ℕ) → set_before v (hadamards n B (own_labels n) unseen) ≡ set_before v (hadamards n A (own_labels n) unseen)
  pub last : (q : ℕ) → q < n → named_last n B (own_labels n) unseen q ≡ named_last n A (own_labels n) unseen q
  pub totals : (m : ℕ) → total m (terms n B (own_labels n) unseen) % 8 ≡ total m (terms n A (own_labels n) unseen) % 8
