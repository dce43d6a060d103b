-- The plain world as code: which world it holds, and what a walk over its objects has met.
pub mod Seen
pub mod View
pub mod Flags
pub mod Met
