-- Proofs on calls.
pub mod Keeping
pub mod Agreeing
pub mod Lawful
pub mod CoreCalls
pub mod Calls
pub mod Cases
pub mod Listing
pub mod Roomless
