-- Lemmas on tokens, decimals and calls.
pub mod Runs
pub mod Values
pub mod Bodies
pub mod Naming
pub mod Lines
pub mod Spelt
pub mod Printed
