pub mod Places
pub mod Packed
pub mod Growing
pub mod Putting
pub mod Tables
pub mod Turns
pub mod Filling
