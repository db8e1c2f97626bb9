pub mod Ready
pub mod Answering
pub mod Handed
pub mod Handing
pub mod Kept
pub mod Asked
