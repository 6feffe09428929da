-- ---- definitions that public clauses reach
pub mod Layers
pub mod Walk
