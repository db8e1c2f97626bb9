pub mod Fronts
pub mod Pasted
pub mod Putting
pub mod Tests
pub mod Written
pub mod Zeros
