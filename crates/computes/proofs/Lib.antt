pub mod Ranged
pub mod Fitting
