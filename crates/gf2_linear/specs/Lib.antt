-- ---- definitions that public clauses reach
pub mod Rows
pub mod Completions
pub mod Matrices
pub mod Wide
-- ---- working forms
pub mod Words
pub mod Bases
pub mod Eliminations
pub mod Sifts
