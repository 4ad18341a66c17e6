pub mod Checks
pub mod Rooming
