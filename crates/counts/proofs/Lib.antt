pub mod Tally
pub mod Single
pub mod Agree
pub mod Numbers
pub mod WhichRow
