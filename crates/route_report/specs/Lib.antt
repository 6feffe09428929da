-- ---- definitions that public clauses reach
pub mod Compact
pub mod Refusals
pub mod Parts
pub mod Lines
pub mod Faults
pub mod Entries
pub mod Verdicts
-- ---- working forms
pub mod Held
pub mod Unplaced
