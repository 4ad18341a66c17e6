pub mod Emitted
pub mod Single
pub mod Starred
pub mod Traps
