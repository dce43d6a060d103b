-- Proofs on what the programs that measure and compare share.
mod Sorting
mod Counted
