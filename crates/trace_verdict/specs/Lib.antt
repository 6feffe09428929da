-- ---- definitions that public clauses reach
pub mod Verdicts
-- ---- working forms
pub mod Told
