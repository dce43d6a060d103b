-- Proofs on the plain world as code.
pub mod Walking
pub mod Finding
pub mod Doing
pub mod PlainCalls
pub mod Arms
