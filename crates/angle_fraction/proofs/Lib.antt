pub mod FactorLaws
pub mod LowestLaws
pub mod PowerLaws
pub mod TurnLaws
