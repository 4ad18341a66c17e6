pub mod Writes
pub mod Single
