-- What is asked of a row before it is looked through, stamps, and what they cost.
pub mod Walkable
pub mod Stamps
pub mod Costs
