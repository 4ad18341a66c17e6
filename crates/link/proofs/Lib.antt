pub mod Whole
pub mod Nameless
pub mod Exports
