pub mod Rooms
pub mod Saying
pub mod Piped
pub mod Told
