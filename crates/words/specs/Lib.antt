-- The leaves of the manager: what single words say, as numbers.
pub mod Header
pub mod Kinds
pub mod Reference
pub mod Packing
pub mod Past
pub mod Edges
