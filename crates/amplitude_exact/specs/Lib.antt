-- ---- definitions that public clauses reach
pub mod Entries
pub mod Values
-- ---- working forms
pub mod Columns
