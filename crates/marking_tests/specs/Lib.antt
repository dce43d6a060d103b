-- What the tests say of rows.
pub mod Rows
