-- ---- working forms
pub mod Hashing
pub mod Merging
pub mod Sums
