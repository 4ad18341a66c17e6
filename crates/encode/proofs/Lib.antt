pub mod Offsets
pub mod Passed
pub mod Sizes
pub mod Reach
pub mod Laid
pub mod Fitting
pub mod Carried
pub mod Numbers
