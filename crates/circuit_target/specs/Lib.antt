-- ---- definitions that public clauses reach
pub mod Parted
pub mod InParts
pub mod Standing
pub mod Targets
-- ---- working forms
pub mod Making
pub mod Trying
