-- What a report tells of a program that is written in parts.
--   ToldParts   the placement at each barrier, and the power of w of each part
use Rattle.std.specs.Prelude.{ℕ, List}

pub record ToldParts : Type 0 where
  pub between : List (List ℕ)
  pub powers : List ℕ
