pub mod Bringing
pub mod Seeking
pub mod Presenting
