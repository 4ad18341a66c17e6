pub mod Apart
pub mod Opcodes
pub mod Places
pub mod Narrowed
pub mod Leaf
pub mod UpTo
pub mod Written
pub mod Starts
