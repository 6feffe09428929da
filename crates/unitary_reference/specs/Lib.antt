-- ---- definitions that public clauses reach
pub mod Values
