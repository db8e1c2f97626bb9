pub mod Counts
pub mod Paths
