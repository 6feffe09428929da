-- ---- definitions that public clauses reach
pub mod Outcomes
-- ---- working forms
pub mod Progress
pub mod Elides
