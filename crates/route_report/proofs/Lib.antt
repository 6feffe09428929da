pub mod Floats
pub mod Bytes
pub mod Rows
pub mod Statuses
mod PutLaws
pub mod PlacementLaws
mod EntryLaws
mod SideLaws
