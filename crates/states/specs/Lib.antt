pub mod Packed
pub mod Asked
