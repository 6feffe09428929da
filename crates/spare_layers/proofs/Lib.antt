pub mod AnewLaws
pub mod PlacedLaws
pub mod SparedLaws
pub mod SparedLayerLaws
pub mod SparedPassLaws
pub mod WideWalkLaws
pub mod WovenLaws
