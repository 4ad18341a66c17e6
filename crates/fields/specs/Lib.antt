pub mod Pack
pub mod Parcels
pub mod Faithful
pub mod Matching
