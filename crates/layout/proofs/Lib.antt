-- Lemmas on rows of words.
pub mod Facts
pub mod Lists
pub mod Segs
pub mod Tiles
pub mod Walks
pub mod Heaps
pub mod Writes
pub mod Makes
pub mod Worlds
pub mod Rests
pub mod Examples
