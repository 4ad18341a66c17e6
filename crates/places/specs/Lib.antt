pub mod Items
pub mod Looking
pub mod Verdict
pub mod Left
pub mod Kernels
