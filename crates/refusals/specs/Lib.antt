pub mod Answers
pub mod Numbers
pub mod Calls
pub mod Order
pub mod Scan
