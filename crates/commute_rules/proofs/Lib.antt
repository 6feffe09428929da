pub mod CommuteLaws
pub mod CancelLaws
pub mod TableLaws
