-- Lemmas on the calls.
pub mod Steps
pub mod CoreCalls
