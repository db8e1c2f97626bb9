-- The laws that the proofs of this crate and of the programs cite.
pub mod Texts
