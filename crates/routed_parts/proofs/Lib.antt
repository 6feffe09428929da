pub mod StillLaws
pub mod LegLaws
pub mod RunLaws
pub mod TryLaws
