-- Why nothing is drawn.
pub mod Undrawn
