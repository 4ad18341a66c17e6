pub mod Widening
pub mod WhichRow
pub mod Kernels
pub mod Walks
