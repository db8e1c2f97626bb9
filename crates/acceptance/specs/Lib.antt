pub mod Accepted
pub mod Handed
