-- What stands at each word of a heap after a script's calls.
pub mod Spots
pub mod Puts
pub mod Played
pub mod Grid
pub mod Texts
