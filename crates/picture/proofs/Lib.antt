-- Proofs on what stands at each word of a heap.
mod Putting
mod Surveyed
mod Calls
