-- ---- definitions that public clauses reach
pub mod Values
pub mod Linear
pub mod Lines
