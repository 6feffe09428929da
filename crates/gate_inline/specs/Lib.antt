-- ---- definitions that public clauses reach
pub use Rattle.linear_forms.specs.Values
pub mod Meanings
pub mod Sizes
pub mod Reads
pub mod Inlined
pub mod Splits
pub mod Registers
pub mod Programs
-- ---- working forms
pub mod Capped
pub mod Stops
pub mod Placed
pub mod Frames
pub mod Remembered
pub mod Quiet
pub mod Progress
pub mod Renaming
pub mod Parting
