-- The laws that the proofs of this crate cite.
pub mod Members
pub mod Marking
pub mod Turns
pub mod Given
