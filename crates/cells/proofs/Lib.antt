pub mod Powers
pub mod Rows
pub mod Segments
pub mod Parts
pub mod Beginnings
