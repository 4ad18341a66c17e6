pub mod Parcels
pub mod Steps
