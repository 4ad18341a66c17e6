pub mod Registers
pub mod Refusals
pub mod Layouts
pub mod Encoding
