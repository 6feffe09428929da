-- ---- definitions that public clauses reach
pub mod Arguments
pub mod Bound
pub mod CheckedView
pub mod Checking
pub mod Known
pub mod Meanings
pub mod Refusals
pub mod Sound
pub mod State
pub mod StepViews
pub mod Steps
pub mod Texts
-- ---- working forms
pub mod Bodies
pub mod Naming
pub mod Verdicts
