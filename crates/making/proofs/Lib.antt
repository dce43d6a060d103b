-- Proofs on making.
pub mod Making
