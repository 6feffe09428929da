pub mod PlainLaws
pub mod StageLaws
