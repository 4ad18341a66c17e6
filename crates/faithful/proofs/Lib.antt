pub mod Lines
pub mod Ranges
pub mod Computes
pub mod Opened
pub mod Read
pub mod Rows
