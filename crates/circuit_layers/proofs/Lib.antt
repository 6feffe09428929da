pub mod WalkLaws
pub mod LayerExamples
pub mod TurnLaws
pub mod WalkExamples
