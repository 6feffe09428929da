pub mod PartsLaws
pub mod CutLaws
