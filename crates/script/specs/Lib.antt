-- The text of calls and answers, and how it is read.
pub mod Text
pub mod Tokens
pub mod Numbers
pub mod Reading
pub mod Spelling
