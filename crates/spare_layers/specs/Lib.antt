-- ---- definitions that public clauses reach
pub mod Spared
pub mod SparedLayers
-- ---- working forms
pub mod Weaving
