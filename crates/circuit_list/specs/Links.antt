-- Working form.
-- The links: a tree and marks over some slots.
--   IsLinks es l      these are the links of the slots
--   IsReady es l      the same, and there is room for one slot more
use Rattle.std.specs.Prelude.{◌+◌, ◌*◌, ◌/◌, ◌<◌, ◌≤◌, List, length, Option}
use Rattle.circuit_list.specs.declared.Gate.{Gate}
use Rattle.circuit_list.specs.declared.links.Links.{Links}
use Rattle.circuit_list.specs.Marks.{IsMarked}
use Rattle.circuit_list.specs.Tree.{IsTree}

pub record IsLinks (es : List (Option Gate)) (l : Links) : Type 0 where
  pub tree : IsTree l.height es l.nodes.items
  pub marked : IsMarked es l.marks.items

pub record IsReady (es : List (Option Gate)) (l : Links) : Type 0 where
  pub links : IsLinks es l
  pub nodes : length es < length l.nodes.items
  pub marks : length es / 64 * 64 + 64 ≤ length l.marks.items
