pub mod PairLaws
pub mod KnownLaws
pub mod EditLaws
pub mod RuleLaws
