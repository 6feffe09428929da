pub mod RouteLaws
pub mod SoundLaws
pub mod SpellingLaws
pub mod EditionLaws
pub mod ExactLaws
pub mod PartLaws
pub mod Examples
pub mod BackLaws
