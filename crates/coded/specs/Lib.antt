pub mod Coded
pub mod Fine
