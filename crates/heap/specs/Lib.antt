-- What the manager promises: one call, and a whole script.
pub mod Says
pub mod Outputs
pub mod Touches
pub mod Playing
