-- ---- definitions that public clauses reach
pub mod Texts
pub mod Outputs
-- ---- working forms
pub mod Pieces
pub mod Trees
pub mod Words
