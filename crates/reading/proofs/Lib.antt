pub mod Found
pub mod Walked
pub mod Numbers
pub mod Single
