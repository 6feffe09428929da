-- ---- working forms
pub mod Names
pub mod Sums
pub mod Terms
pub mod Words
pub mod Rows
pub mod Gathering
pub mod Vanishing
