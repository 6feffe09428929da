-- ---- definitions that public clauses reach
pub mod Ring
pub mod Operations
pub mod Amplitude
pub mod Sums
pub mod OddPaths
pub mod Placement
pub mod Realises
pub mod Acts
pub mod Paths
pub mod SameUpTo
pub mod Realised
pub mod Limits
-- ---- working forms
pub mod Reached
