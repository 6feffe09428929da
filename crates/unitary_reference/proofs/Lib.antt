pub mod ValueLaws
pub mod WalkLaws
