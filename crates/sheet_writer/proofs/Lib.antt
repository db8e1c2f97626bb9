pub mod Fields
pub mod Turns
pub mod Rows
pub mod Sheets
