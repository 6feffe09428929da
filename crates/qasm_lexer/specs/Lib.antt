-- ---- definitions that public clauses reach
pub mod Forms
pub mod Names
pub mod Numbers
pub mod Tokens
pub mod Lexemes
pub mod Lexed
-- ---- working forms
pub mod Steps
