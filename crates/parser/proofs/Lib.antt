pub mod Keeping
pub mod Adding
pub mod Reached
pub mod Turns
pub mod Sizes
pub mod Whole
pub mod Limits
