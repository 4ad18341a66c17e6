pub mod Back
pub mod All
pub mod Walk
