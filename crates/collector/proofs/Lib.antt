-- Proofs on collections.
pub mod Free
