pub mod Searches
pub mod Stores
pub mod Which
pub mod Held
pub mod Lookups
pub mod Fronts
