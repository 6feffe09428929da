-- ---- definitions that public clauses reach
pub mod DeclaredNames
pub mod Expressions
pub mod Parsing
pub mod Places
pub mod Spelling
pub mod Symbols
pub mod Tree
-- ---- working forms
pub mod Frames
pub mod Heads
pub mod Machine
pub mod Misread
pub mod Modes
pub mod NameBytes
pub mod Parts
pub mod Reading
pub mod Shapes
pub mod Views
pub mod Ways
