pub mod SizeLaws
pub mod EntryLaws
pub mod HalfLaws
pub mod BitLaws
pub mod RowLaws
pub mod ColumnLaws
