-- What the lines of a script come to, what is printed of it, and what is said of a fault.
pub mod Reading
pub mod Playing
pub mod Memories
pub mod Faults
