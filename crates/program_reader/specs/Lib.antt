-- ---- definitions that public clauses reach
pub mod Refusals
pub mod Sources
pub mod Texts
-- ---- working forms
pub mod Stages
