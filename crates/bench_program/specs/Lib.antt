-- ---- definitions that public clauses reach
pub mod Draws
pub mod Program
-- ---- working forms
pub mod Walked
