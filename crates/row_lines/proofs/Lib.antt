pub mod Writing
pub mod Again
pub mod Samples
pub mod Backward
