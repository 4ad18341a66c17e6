pub mod Lining
pub mod Parts
pub mod Again
pub mod Turned
pub mod Samples
