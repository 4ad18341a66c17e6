pub mod Putting
pub mod Decimals
pub mod Signs
pub mod Lengths
