-- The laws that the proofs of this crate cite.
pub mod Knowing
pub mod Earlier
pub mod Judging
