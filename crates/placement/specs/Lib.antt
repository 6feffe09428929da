-- ---- working forms
pub mod Inverse
