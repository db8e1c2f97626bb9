pub mod Sets
pub mod Marking
