pub mod Cases
pub mod Limit
pub mod Readings
pub mod Kept
