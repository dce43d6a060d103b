-- What the first line of a script makes; all else of it is in other crates.
pub mod First
