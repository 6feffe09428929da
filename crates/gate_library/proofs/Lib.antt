pub mod ListLaws
pub mod OperandLaws
pub mod RepeatLaws
mod TableLaws
