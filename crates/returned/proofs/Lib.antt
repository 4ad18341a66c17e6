pub mod Read
pub mod Items
pub mod Stands
pub mod Walk
pub mod Kernels
