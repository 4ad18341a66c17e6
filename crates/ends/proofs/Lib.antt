pub mod Looked
pub mod Starting
pub mod Ending
pub mod Tails
pub mod Words
