-- What a trace of touched words is.
pub mod Trace
