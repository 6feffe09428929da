-- ---- definitions that public clauses reach
pub mod Gates
pub mod Library
pub mod Limits
pub mod Listing
pub mod Names
pub mod Operands
pub mod Views
-- ---- working forms
pub mod Rows
