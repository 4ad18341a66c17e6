pub mod Once
pub mod Plain
