pub mod Delayed
pub mod Branches
