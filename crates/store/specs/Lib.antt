-- The manager over a row of words: what its accessors ask and leave.
pub mod Open
pub mod Ready
pub mod Lies
pub mod Wiped
pub mod Frame
pub mod Accesses
pub mod Cursor
