pub mod ReaderLaws
pub mod OnceLaws
pub mod RegisterLaws
pub mod WholeLaws
pub mod LimitLaws
pub mod HeldLaws
