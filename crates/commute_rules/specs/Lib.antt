-- ---- definitions that public clauses reach
pub mod Cancels
pub mod Commutes
pub mod Reducible
