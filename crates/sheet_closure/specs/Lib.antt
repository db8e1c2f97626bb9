pub mod Violations
