pub mod Walking
pub mod Placing
pub mod Alike
