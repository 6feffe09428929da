-- ---- definitions that public clauses reach
pub mod Starts
-- ---- working forms
pub mod First
