-- Worlds: slots and objects by number, what is reached and what that weighs, and when two are alike.
pub mod Base
pub mod World
pub mod Alike
pub mod Laws
pub mod Room
