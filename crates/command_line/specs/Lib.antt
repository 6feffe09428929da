-- ---- definitions that public clauses reach
pub mod Commands
pub mod Demands
