pub mod Entries
pub mod Asked
pub mod Writing
pub mod Written
pub mod Walking
pub mod Finishing
pub mod Once
pub mod Whole
