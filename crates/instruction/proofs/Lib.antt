pub mod Short
pub mod Single
pub mod Numbers
