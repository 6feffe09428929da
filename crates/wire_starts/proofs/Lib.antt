pub mod StartLaws
pub mod FitLaws
pub mod FirstLaws
pub mod OnceLaws
