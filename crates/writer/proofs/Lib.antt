pub mod Held
pub mod Stores
