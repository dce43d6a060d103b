-- Proofs on the manager's calls.
pub mod Arms
pub mod Scripts
