pub mod Moves
pub mod Tails
pub mod Widened
