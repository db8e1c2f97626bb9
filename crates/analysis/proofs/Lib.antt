pub mod Ends
pub mod Done
pub mod Shown
