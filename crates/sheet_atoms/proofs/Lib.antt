pub mod Atoms
pub mod Turns
