-- What making an object leaves.
pub mod Reserved
