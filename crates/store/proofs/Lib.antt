-- Lemmas on what the manager finds in a sound row.
pub mod Finding
pub mod Framing
pub mod Wiping
