-- What the programs that measure and compare count, and their numbers at random.
pub mod Draws
pub mod Named
pub mod Kinds
pub mod Tallies
pub mod Touches
