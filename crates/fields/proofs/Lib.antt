pub mod Front
pub mod Fronts
pub mod Nth
