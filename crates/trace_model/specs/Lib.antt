-- ---- definitions that public clauses reach
pub mod Lines
pub mod Proves
-- ---- working forms
pub mod Spelling
