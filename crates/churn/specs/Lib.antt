-- What the held objects are made of; the rest of the program is thin.
pub mod Held
