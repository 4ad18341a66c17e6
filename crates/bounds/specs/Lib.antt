pub mod Tables
pub mod Bounds
pub mod Checks
