-- Proofs on worlds.
pub mod Members
pub mod Objects
pub mod Settles
pub mod Reaching
pub mod Weights
pub mod Changes
pub mod Weighs
pub mod Steps
pub mod Equivalence
