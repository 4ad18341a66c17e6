pub mod Saying
pub mod Counted
