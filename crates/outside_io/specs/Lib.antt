-- ---- definitions that public clauses reach
pub mod Causes
pub mod Bytes
pub mod Shelf
pub mod Memory
