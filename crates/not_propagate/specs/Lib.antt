-- ---- definitions that public clauses reach
pub mod LastX
-- ---- working forms
pub mod Walks
