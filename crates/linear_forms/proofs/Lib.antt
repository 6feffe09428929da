pub mod IntLaws
pub mod PartLaws
pub mod LinearLaws
pub mod AtLaws
pub mod FormLaws
