-- ---- definitions that public clauses reach
pub mod Fraction
pub mod Angles
