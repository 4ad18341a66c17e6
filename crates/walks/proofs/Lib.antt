pub mod Walk
pub mod Again
pub mod Shared
pub mod Local
pub mod Plain
pub mod Parts
pub mod Lent
