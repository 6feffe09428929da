pub mod TargetLaws
pub mod CostLaws
pub mod PartLaws
pub mod StandLaws
pub mod FitLaws
pub mod MadeLaws
pub mod TryingLaws
