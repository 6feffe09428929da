pub mod StatusLaws
pub mod EmittedLaws
pub mod SourceLaws
pub mod DeviceLaws
pub mod PlanLaws
pub mod SparedLaws
pub mod ClaimLaws
pub mod RunLaws
