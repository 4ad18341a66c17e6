pub mod Single
pub mod Fits
pub mod Fine
pub mod Places
pub mod Held
pub mod Seen
