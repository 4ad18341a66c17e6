pub mod Front
pub mod Twins
pub mod Table
pub mod Window
