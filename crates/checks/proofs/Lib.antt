pub mod Passed
pub mod Rooming
