-- Rows of words: where objects lie in one, which rows are sound, and which world a sound one stands for.
pub mod Map
pub mod Cells
pub mod Sound
pub mod Marks
pub mod Examples
pub mod Roots
