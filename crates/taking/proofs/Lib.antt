pub mod Skims
pub mod NextRow
pub mod Records
pub mod Turning
