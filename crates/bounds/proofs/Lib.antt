pub mod Lookups
pub mod Twelve
pub mod Filled
pub mod Tails
pub mod Edges
