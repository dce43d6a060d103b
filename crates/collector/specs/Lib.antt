-- What a collection leaves.
pub mod Collected
