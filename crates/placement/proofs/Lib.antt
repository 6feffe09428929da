pub mod PlacementLaws
pub mod InverseLaws
