pub mod Whole
pub mod Clauses
pub mod Conditions
pub mod Queries
