pub mod Slots
pub mod Watch
pub mod WithoutLabels
pub mod Kernels
pub mod WhichRow
