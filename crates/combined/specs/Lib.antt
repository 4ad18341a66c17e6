pub mod Right
pub mod Single
pub mod Tests
