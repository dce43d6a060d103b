-- Rows in which a cell was led elsewhere.
pub mod Leading
