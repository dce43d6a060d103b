-- Proofs on the lines of a script, and on what is printed of it.
mod InputLines
mod Taken
mod Printed
