-- ---- working forms
pub mod EventLines
pub mod Replays
