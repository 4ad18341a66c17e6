pub mod Machine
pub mod Fold
pub mod Finish
